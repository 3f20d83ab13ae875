pub mod RowLemmas
pub mod AddLemmas
mod TakeLemmas
pub mod BusyLemmas
pub mod ToldLemmas
pub mod QuietLemmas
