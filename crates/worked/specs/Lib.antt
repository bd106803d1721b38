-- Worked examples of runs, each with its text: kind, place and depth of every action, the state and the cells.
pub mod Calls
pub mod Depths
pub mod Flow
pub mod Traps
pub mod Refused
