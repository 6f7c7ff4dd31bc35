pub mod Originals
pub mod Plan
pub mod Refusals
