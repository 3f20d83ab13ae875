pub mod Answering
pub mod Errands
pub mod Reading
pub mod Routes
pub mod Targets
