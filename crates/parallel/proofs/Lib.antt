pub mod Lists
pub mod Theorem
