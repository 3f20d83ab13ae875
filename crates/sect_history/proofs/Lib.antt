mod Leading
mod Moving
mod BatchLemmas
mod StepLemmas
pub mod Histories
