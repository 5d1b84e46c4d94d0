pub mod IssueLemmas
pub mod ElementLemmas
pub mod ItemLemmas
mod ItemLengths
mod MadeCopies
pub mod ObjectLemmas
mod CopyLemmas
mod GroupLemmas
pub mod LimitLemmas
