pub mod Lists
pub mod Accepted
pub mod Carries
pub mod Sets
pub mod Numbered
pub mod OneStretch
pub mod Nodes
pub mod Beside
pub mod Whole
mod Walks
