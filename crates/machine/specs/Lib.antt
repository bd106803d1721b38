-- The step machine, and what is proved of it.
pub mod Machine
pub mod Moves
pub mod Height
pub mod Waiting
pub mod Opened
pub mod Present
pub mod Depth
pub mod Theorems
