pub mod Each
pub mod Worlds
pub mod Choices
pub mod Leaves
pub mod Refusals
pub mod Batches
pub mod Steps
pub mod Histories
