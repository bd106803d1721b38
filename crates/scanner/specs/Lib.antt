pub mod Gaps
pub mod Fronts
pub mod Scan
pub mod States
