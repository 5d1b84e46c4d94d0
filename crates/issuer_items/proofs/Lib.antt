pub mod ItemParts
pub mod ItemWritten
