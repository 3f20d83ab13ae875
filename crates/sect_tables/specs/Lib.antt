pub mod Headers
pub mod Offerings
pub mod Progress
pub mod Requests
pub mod Rows
pub mod Fields
pub mod Lines
pub mod Told
