pub mod CountLemmas
pub mod FitLemmas
pub mod Pieces
pub mod SurveyLemmas
