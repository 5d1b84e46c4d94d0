pub mod Checks
pub mod Ending
pub mod Views
