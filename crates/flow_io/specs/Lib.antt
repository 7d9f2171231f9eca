pub mod Devices
pub mod Memory
pub mod Ahead
pub mod Watched
pub mod Sinks
pub mod Buffers
