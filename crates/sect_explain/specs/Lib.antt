pub mod Examples
pub mod Explained
pub mod Reason
pub mod Replied
