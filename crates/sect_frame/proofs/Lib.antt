mod ReadLemmas
mod WalkLemmas
mod FoundLemmas
mod PartLemmas
mod CatalogueLemmas
mod ElsewhereLemmas
mod UntouchedLemmas
mod OutcomeLemmas
pub mod NeedLemmas
