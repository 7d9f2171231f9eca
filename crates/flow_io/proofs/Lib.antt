pub mod Moving
pub mod Outlets
