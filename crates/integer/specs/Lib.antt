pub mod Integers
pub mod Laws
pub mod Table
