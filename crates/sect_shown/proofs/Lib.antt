pub mod CourseLemmas
pub mod WeekLemmas
