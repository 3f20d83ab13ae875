pub mod OpenLemmas
pub mod WalkLemmas
pub mod LookLemmas
pub mod CoverLemmas
pub mod NodeLemmas
pub mod TextLemmas
pub mod OneLemmas
