pub mod Days
pub mod Parts
pub mod Reading
pub mod ReadingWords
pub mod Times
pub mod Words
