pub mod LineWords
pub mod Going
pub mod Outcomes
pub mod Files
