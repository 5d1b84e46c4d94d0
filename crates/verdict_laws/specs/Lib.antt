pub mod FirstCheck
pub mod Found
pub mod Conditions
