mod ChangeLemmas
mod IndexLemmas
pub mod OrderLemmas
pub mod PlaceLemmas
pub mod RankLemmas
mod RepeatLemmas
