pub mod Confirming
pub mod Names
pub mod Validity
