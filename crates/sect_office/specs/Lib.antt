pub mod Calls
pub mod Offices
pub mod Works
