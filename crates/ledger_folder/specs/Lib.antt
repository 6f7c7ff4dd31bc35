pub mod Copies
pub mod Faults
pub mod Gaps
pub mod SystemFolder
