pub mod AlikeLemmas
pub mod GrowLemmas
pub mod RoundLemmas
