pub mod Script
pub mod Bits
pub mod Places
pub mod Entries
pub mod Grammar
pub mod Requests
pub mod Cutting
