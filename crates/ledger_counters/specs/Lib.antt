pub mod Faults
pub mod Name
pub mod Seats
