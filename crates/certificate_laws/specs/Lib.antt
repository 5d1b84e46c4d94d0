pub mod Extensions
pub mod Faults
pub mod IsCertificate
pub mod IsLayout
pub mod MadeOf
pub mod Numbers
pub mod PartsLie
