pub mod Bytes
pub mod Field
pub mod Cipher
pub mod Galois
pub mod Sealing
