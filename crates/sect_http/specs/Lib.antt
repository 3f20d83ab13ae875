pub mod Answers
pub mod Hearing
pub mod Telling
pub mod Turns
