pub mod Verdict
pub mod Faults
