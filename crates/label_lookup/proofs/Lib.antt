pub mod Scanned
pub mod Labellings
pub mod Tops
pub mod Entries
