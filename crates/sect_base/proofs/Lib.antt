mod SectionLemmas
pub mod TreeLemmas
pub mod KeepLemmas
pub mod BitLemmas
pub mod CalendarLemmas
pub mod ClearLemmas
pub mod ClockLemmas
pub mod DayTexts
pub mod MeetingTexts
pub mod OverlapLemmas
pub mod WeekBits
pub mod WeekLemmas
pub mod WeekPrints
pub mod WeekRuns
pub mod WeekScans
pub mod WeekUnions
pub mod WeekdayLemmas
pub mod Years
