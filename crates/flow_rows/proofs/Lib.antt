pub mod Usable
pub mod Reading
pub mod LayoutRows
pub mod Walking
pub mod Adding
pub mod EqualRecords
