pub mod Bytes
pub mod Digits
pub mod Fields
pub mod Runs
pub mod Stores
pub mod Test
pub mod Theorem
pub mod Values
