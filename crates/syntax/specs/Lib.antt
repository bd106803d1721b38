pub mod StatementTrees
pub mod Statements
pub mod ProgramTrees
pub mod Declarations
pub mod Procedures
pub mod Modules
pub mod Program
