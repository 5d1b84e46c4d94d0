pub mod AgreeingLemmas
pub mod CommandLemmas
pub mod ExactlyLemmas
pub mod OrderRun
