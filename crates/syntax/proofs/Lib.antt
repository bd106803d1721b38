pub mod StatementsWithin
pub mod ProgramsWithin
