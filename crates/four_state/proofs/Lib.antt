pub mod Boundaries
pub mod Changes
pub mod Ends
pub mod Packing
pub mod Says
pub mod Words
