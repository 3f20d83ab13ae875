pub mod Step
pub mod Changes
pub mod BatchLines
pub mod Throughout
pub mod Laws
