pub mod CutLemmas
pub mod CutPieces
pub mod Divisions
pub mod Feeding
pub mod Limits
pub mod OneMore
mod ArrivalLemmas
