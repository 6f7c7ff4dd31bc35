pub mod HandedIn
pub mod Left
pub mod Refusal
pub mod Day
pub mod Archive
pub mod MemoryArchive
pub mod Spans
pub mod Ended
