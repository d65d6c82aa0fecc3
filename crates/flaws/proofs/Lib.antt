pub mod Keys
pub mod Theorem
