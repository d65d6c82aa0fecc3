pub mod Homes
pub mod Theorem
