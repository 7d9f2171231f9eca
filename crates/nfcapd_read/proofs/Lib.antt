pub mod Elements
pub mod Puts
pub mod Parts
pub mod Gathering
pub mod Making
pub mod Beginning
pub mod Opening
pub mod Rejoining
