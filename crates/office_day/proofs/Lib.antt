mod Ended
pub mod Lists
pub mod Days
pub mod Limits
pub mod Pairing
pub mod Served
pub mod RefusedOpening
mod Archived
mod MemoryAdds
pub mod SpanLaws
mod Sights
