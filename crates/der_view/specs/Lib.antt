pub mod Element
pub mod Fault
pub mod Reading
pub mod Parts
pub mod Der
pub mod PartsLeft
