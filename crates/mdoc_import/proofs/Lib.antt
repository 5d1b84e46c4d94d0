pub mod EndLemmas
pub mod ImportAlike
pub mod ImportLemmas
pub mod RowLemmas
