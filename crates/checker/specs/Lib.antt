pub mod Outcome
pub mod Terms
pub mod Exprs
pub mod Paths
pub mod Stmts
pub mod Check
pub mod Examples
