pub mod Disks
pub mod FailStop
pub mod LockedFile
pub mod Opened
pub mod ReadBuffer
pub mod ReadOnly
pub mod RealFile
pub mod Run
