pub mod Stretches
pub mod Starting
pub mod Windows
pub mod Runs
pub mod RunsText
pub mod Mappings
pub mod Sweep
