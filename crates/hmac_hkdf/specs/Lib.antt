pub mod Mac
pub mod Derivation
