pub mod Classes
pub mod Readers
