pub mod Digits
pub mod Lengths
pub mod Elements
pub mod Listing
pub mod OneList
