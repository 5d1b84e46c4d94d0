pub mod DecimalLemmas
pub mod DiceLaws
pub mod EachStep
pub mod GaveWordsLemmas
mod LineSteps
pub mod Splits
mod WordSteps
