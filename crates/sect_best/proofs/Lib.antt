pub mod PlanLemmas
pub mod ToldLemmas
pub mod LawLemmas
pub mod LeaveLemmas
