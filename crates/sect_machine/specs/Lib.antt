pub mod Acting
pub mod Answering
pub mod NotDone
pub mod Opening
pub mod Placed
pub mod Settling
pub mod Standing
pub mod Tracked
