pub mod Asked
pub mod Back
pub mod Checked
pub mod States
pub mod Again
