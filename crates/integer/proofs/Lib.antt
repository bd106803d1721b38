pub mod Division
pub mod Truncation
