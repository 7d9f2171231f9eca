pub mod Lookup
pub mod Leaves
pub mod Sublists
pub mod Nodes
pub mod Places
pub mod ListBuilt
