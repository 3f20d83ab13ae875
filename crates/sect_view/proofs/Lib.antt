pub mod AskLemmas
pub mod DifferLemmas
pub mod FoundLemmas
pub mod RowLemmas
pub mod ScheduleLemmas
