pub mod Calendar
pub mod Elements
pub mod Fitting
pub mod Form
pub mod MomentText
