pub mod Calls
pub mod Depths
pub mod Flow
pub mod Traps
pub mod Refused
