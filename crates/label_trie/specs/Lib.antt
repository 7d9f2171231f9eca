pub mod TrieModel
pub mod Parts
pub mod Leaves
pub mod Stored
pub mod Nodes
