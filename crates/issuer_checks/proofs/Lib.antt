pub mod ObjectLengths
pub mod ChecksInOrder
