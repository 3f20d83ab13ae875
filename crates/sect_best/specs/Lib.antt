pub mod Plan
pub mod Told
pub mod Text
pub mod Vector
pub mod Laws
