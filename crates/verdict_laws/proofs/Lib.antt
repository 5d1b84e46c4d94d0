pub mod FirstCheck
pub mod Elements
mod Lists
mod Walks
mod Roots
mod FirstFailure
