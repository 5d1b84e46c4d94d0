pub mod Zipped
pub mod Stored
