pub mod Along
pub mod Heads
pub mod Short
pub mod Telling
pub mod Turning
