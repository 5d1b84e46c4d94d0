pub mod IssuedCopies
pub mod IssuedStores
