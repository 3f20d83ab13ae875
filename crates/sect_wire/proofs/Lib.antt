pub mod Again
pub mod Fits
pub mod Names
pub mod Objects
pub mod Plain
