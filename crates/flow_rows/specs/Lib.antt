pub mod Elements
pub mod Numbers
pub mod Counts
pub mod Inner
pub mod Laws
pub mod Walk
