pub mod Gathering
pub mod Lines
pub mod Progress
pub mod Reading
pub mod Run
pub mod Statuses
