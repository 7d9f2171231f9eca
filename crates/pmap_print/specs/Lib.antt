pub mod Table
pub mod Times
pub mod Reports
pub mod Messages
