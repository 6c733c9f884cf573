pub mod Kinds
pub mod Bytes
pub mod Records
pub mod Trees
pub mod Places
