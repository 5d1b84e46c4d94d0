pub mod Joined
pub mod Rounds
pub mod Running
