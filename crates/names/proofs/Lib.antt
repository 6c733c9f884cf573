pub mod Seeks
pub mod Laws
