pub mod Entries
pub mod FieldLemmas
pub mod CipherLemmas
pub mod BytesLemmas
pub mod BitsLemmas
pub mod BlockLemmas
pub mod SealingLemmas
