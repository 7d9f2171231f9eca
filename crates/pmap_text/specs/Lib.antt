pub mod Reading
pub mod Inner
pub mod Progress
pub mod Declarations
