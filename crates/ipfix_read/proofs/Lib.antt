pub mod RecordValues
pub mod Sets
pub mod Readings
pub mod Gathering
pub mod Joining
pub mod Following
