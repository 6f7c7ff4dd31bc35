pub mod Answered
pub mod Taking
