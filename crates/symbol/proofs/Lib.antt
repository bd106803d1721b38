pub mod Digits
pub mod Reserved
