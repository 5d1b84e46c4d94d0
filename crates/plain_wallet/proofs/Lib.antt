pub mod MessageJoiner
pub mod RoundLemmas
pub mod RunLemmas
