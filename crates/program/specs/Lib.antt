-- The resolved program: types, nodes, cells, and what is asked of them.
pub mod Types
pub mod Trees
pub mod Cells
pub mod WellFormed
pub mod Decided
pub mod Theorems
