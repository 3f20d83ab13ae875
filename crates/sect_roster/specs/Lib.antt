pub mod Filed
pub mod Last
pub mod Listed
pub mod Slots
pub mod Undone
pub mod Rostered
