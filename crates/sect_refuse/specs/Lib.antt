pub mod Refused
pub mod Tickets
