pub mod Places
pub mod Answers
pub mod Least
pub mod RoundsExact
