pub mod DigitCounts
pub mod NumberLaws
pub mod OptionSteps
pub mod Printing
pub mod TreeLaws
