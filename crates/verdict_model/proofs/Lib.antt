mod AcceptedElements
mod Sound
pub mod Covered
