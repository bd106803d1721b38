pub mod Phrases
pub mod Expressions
pub mod Types
pub mod Statements
pub mod Modules
pub mod Stops
pub mod Theorems
pub mod Examples
