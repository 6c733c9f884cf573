pub mod Verdicts
pub mod Bared
pub mod Levels
pub mod Once
pub mod WellFormed
pub mod Walks
pub mod Depths
mod Sampled
