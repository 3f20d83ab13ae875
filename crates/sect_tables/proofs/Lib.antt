pub mod FieldLemmas
pub mod Lists
pub mod Steps
