pub mod Bytes
pub mod Holds
pub mod Table
