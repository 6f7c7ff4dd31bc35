pub mod InOrder
pub mod Changes
mod PlaceTables
mod KeptPlaces
