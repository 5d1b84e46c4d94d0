pub mod CivilDays
pub mod DateLaws
pub mod MomentForm
pub mod MomentLaws
pub mod MomentTexts
pub mod TableRows
