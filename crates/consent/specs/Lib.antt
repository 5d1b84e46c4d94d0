pub mod Grammar
pub mod Rule
pub mod Rules
pub mod Wish
