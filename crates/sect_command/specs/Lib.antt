pub mod Reading
pub mod TreeText
