pub mod Exactly
pub mod Least
pub mod Rounds
