pub mod ConsoleWords
pub mod ConsoleSettings
pub use Rattle.front_scripts.specs.Lines
pub use Rattle.sector_device.specs.Crash
pub mod Statuses
pub mod Invocations
pub mod Status
pub mod ServeOptions
