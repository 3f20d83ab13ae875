pub mod Covered
pub mod Told
pub mod Refutes
pub mod Nodes
pub mod Texts
pub mod One
