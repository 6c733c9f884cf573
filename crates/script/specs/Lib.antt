pub mod Verdict
pub mod Stages
pub mod Trees
pub mod Depths
pub mod Judged
pub mod Samples
pub mod Scripts
