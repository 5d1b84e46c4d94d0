pub mod FewNames
pub mod FirstFaults
pub mod SortedTexts
pub mod Writing
