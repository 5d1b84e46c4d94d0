pub mod AgreeLemmas
pub mod AnsweringLemmas
pub mod CoreWritten
pub mod DraftLemmas
pub mod ExactLemmas
pub mod ReleasedLemmas
pub mod RowLemmas
