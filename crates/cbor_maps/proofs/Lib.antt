pub mod Walking
pub mod WrittenMaps
pub mod Within
pub mod LabelledMaps
