pub mod Times
pub mod Key
pub mod Groups
pub mod Codes
pub mod Inner
pub mod Laws
pub mod Grouped
