pub mod Indexed
pub mod Marked
pub mod Opened
pub mod Placing
pub mod Queued
pub mod Touched
pub mod Undo
