pub mod Asking
pub mod Grows
