pub mod Found
pub mod Unmet
