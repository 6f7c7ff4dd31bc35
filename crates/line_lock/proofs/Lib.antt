mod Balances
mod Counting
mod LeftDevice
mod Legal
mod Listing
mod OneEach
mod Openings
mod Runs
pub mod Sharing
