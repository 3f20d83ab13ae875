pub mod Leaves
pub mod Sums
pub mod Survey
pub mod Text
pub mod Counted
pub mod Laws
