pub mod Fitting
pub mod Theorem
