pub mod AllPlanLemmas
pub mod AllPlanStepLemmas
pub mod CourseLemmas
mod GaveFormLemmas
pub mod GaveLemmas
pub mod OverLemmas
mod PartsLemmas
pub mod PlanEquations
pub mod PlanLemmas
pub mod PlanStepLemmas
mod SameAsk
mod TapeAnswers
mod TapeFileLemmas
mod TapeLineLemmas
mod TapeTextLemmas
mod WrittenLines
mod WrittenTapes
mod WrittenWords
