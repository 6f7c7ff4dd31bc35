pub mod Places
pub mod Refused
