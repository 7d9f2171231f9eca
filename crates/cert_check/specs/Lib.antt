pub mod Carried
pub mod Checking
pub mod Inner
