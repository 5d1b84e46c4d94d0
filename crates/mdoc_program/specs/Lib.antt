pub mod Agreeing
pub mod Commands
pub mod Exactly
pub mod Order
pub mod Orders
pub mod Runs
