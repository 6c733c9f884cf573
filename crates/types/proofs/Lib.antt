mod Compares
pub mod Finds
