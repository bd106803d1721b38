pub mod Windows
pub mod Boards
pub mod Loops
