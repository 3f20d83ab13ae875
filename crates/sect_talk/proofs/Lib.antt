pub mod Blank
pub mod Fronts
pub mod Stored
pub mod Taken
pub mod Talks
