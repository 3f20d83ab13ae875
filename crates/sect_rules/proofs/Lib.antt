pub mod OptionLemmas
pub mod RisingLemmas
pub mod PathLemmas
pub mod FoundLemmas
pub mod AtLemmas
pub mod DueLemmas
