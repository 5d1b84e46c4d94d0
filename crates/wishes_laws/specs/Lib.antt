pub mod BadLine
pub mod WishesFile
