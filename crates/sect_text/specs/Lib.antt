pub mod Commands
pub mod Replies
pub mod Rows
pub mod ToldRows
