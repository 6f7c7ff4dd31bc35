pub mod Run
pub mod RunLaws
pub mod Sharpness
pub mod Stabilization
pub mod Audited
