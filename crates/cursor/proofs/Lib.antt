pub mod Loops
pub mod Steps
