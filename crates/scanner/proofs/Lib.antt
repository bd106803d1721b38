pub mod Gaps
pub mod Fronts
pub mod Within
pub mod Scans
