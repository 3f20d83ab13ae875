pub mod BatchLemmas
pub mod LineLemmas
