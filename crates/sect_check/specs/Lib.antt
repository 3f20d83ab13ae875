pub mod Complaints
pub mod Expected
pub mod Fits
pub mod Walks
