pub mod AnswerLines
pub mod Asks
pub mod Desk
