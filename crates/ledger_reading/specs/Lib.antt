pub mod Whole
pub mod Listed
pub mod Adding
pub mod Comparing
pub mod Filled
pub mod Book
pub mod BookLaws
