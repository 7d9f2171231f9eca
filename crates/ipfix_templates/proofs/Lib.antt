pub mod Choice
pub mod Reading
pub mod Records
pub mod Parts
mod InForce
