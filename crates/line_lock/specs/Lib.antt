pub mod Seat
pub mod Account
pub mod OpenedOn
pub mod Told
pub mod Lent
pub mod Asked
pub mod AskedLaws
pub mod Locked
