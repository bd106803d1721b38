pub mod Within
pub mod Moves
