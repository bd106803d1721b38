-- What a program does, and what is promised of it.
pub mod Actions
pub mod Meaning
pub mod Typing
pub mod Hiding
pub mod Order
pub mod Running
pub mod Examples
