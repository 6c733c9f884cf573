pub mod Counts
pub mod Deepens
mod Marks
pub mod Runs
