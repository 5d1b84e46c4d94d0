pub mod MessageBytes
pub mod OpeningLemmas
pub mod DataWritten
pub mod EstablishmentWritten
pub mod BothEnds
