pub mod LineLemmas
pub mod KeptBits
pub mod DayEnds
