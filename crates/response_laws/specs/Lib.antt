pub mod Writable
pub mod ReadBack
pub mod Calls
