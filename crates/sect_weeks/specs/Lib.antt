pub mod Busy
pub mod Credits
pub mod Enrolled
pub mod Laws
pub mod Quiet
pub mod Rows
pub mod Taken
