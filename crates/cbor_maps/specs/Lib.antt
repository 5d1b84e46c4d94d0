pub mod Reading
pub mod Writing
pub mod Labels
pub mod WrittenReads
pub mod Contents
pub mod Found
pub mod NamedMap
