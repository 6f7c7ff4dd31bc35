pub mod Fronts
pub mod Lists
pub mod Wholes
pub mod Both
pub mod OneSight
mod Compared
mod Filled
