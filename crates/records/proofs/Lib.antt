pub mod Grows
pub mod Views
mod Fields
pub mod Passing
