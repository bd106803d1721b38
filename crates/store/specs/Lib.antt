pub mod Cells
pub mod Laws
pub mod Boards
pub mod Bays
