pub mod Strings
pub mod Messages
pub mod Keys
pub mod Items
