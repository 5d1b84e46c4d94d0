pub mod ItemLies
pub mod MessageLies
pub mod StringLies
