pub mod ImportLemmas
pub mod ReadingLemmas
pub mod FoldLemmas
pub mod KeptLemmas
pub mod LineLemmas
pub mod RowLemmas
