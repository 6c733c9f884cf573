pub mod Room
pub mod Lines
