pub mod CourseLemmas
pub mod HeldLemmas
pub mod WaitLemmas
