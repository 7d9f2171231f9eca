pub mod Places
pub mod Reading
mod Together
