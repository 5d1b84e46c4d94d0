pub mod Written
pub mod CopyView
pub mod Nested
pub mod Storable
pub mod Merged
pub mod Answers
