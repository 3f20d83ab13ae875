pub mod Demand
pub mod Examples
pub mod Hours
pub mod Shown
pub mod Week
