pub mod Faults
pub mod Fits
pub mod Laws
pub mod Lines
pub mod ReadingCommands
pub mod ReadingLines
pub mod ReadingReplies
pub mod ReadingRows
