pub mod PackageLines
pub mod Printed
