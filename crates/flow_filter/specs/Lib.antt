pub mod Options
pub mod Texts
pub mod Condition
pub mod Filters
