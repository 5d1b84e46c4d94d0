pub mod Item
pub mod ItemView
pub mod WrittenItem
