pub mod Added
pub mod Decided
pub mod Due
pub mod Part
pub mod Place
pub mod Rising
pub mod Wanted
