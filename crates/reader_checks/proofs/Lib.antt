mod InTurn
mod Causes
mod Moments
pub mod DigestLength
pub mod NameSets
pub mod VerdictSteps
mod DocumentCauses
pub mod CopyLemmas
pub mod DocumentLemmas
