pub mod Dealing
pub mod Decides
