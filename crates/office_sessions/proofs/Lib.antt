mod Ahead
mod Covered
pub mod Exchanges
pub mod Feeds
pub mod Heard
pub mod LateExchanges
mod Looks
mod Rising
mod Runs
mod ToldBy
