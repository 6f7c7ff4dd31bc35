pub mod Failing
pub mod Noting
