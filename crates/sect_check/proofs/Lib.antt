pub mod Agree
pub mod Each
pub mod OfCommands
pub mod OfLines
pub mod Pieces
pub mod Said
