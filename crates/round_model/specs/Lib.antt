pub mod RoundLaws
pub mod Rounds
