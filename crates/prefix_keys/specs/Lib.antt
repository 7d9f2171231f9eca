pub mod Block
pub mod Covers
pub mod Text
pub mod Inner
pub mod Conversion
pub mod Print
pub mod Displayed
