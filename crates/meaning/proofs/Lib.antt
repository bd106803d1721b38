pub mod Operators
pub mod Lawful
pub mod Typing
pub mod Hiding
pub mod Examples
