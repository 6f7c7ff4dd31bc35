pub mod Selection
