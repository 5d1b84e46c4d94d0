pub mod EndLemmas
pub mod IssueLemmas
pub mod RowLemmas
