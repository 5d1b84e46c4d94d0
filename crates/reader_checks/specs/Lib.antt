pub mod Ending
pub mod ElementNames
pub mod FirstCheck
pub mod Checks
pub mod Views
pub mod PackageEnding
