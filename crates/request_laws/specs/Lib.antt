pub mod Confirmed
pub mod Opened
pub mod ReadBack
