pub mod GrammarLaws
pub mod Ranges
pub mod SpellingLaws
pub mod Texts
