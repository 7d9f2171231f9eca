pub mod Numbers
pub mod Listing
pub mod Spines
pub mod Built
