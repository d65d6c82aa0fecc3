pub mod Number
pub mod Ones
pub mod Order
pub mod Pass
pub mod Places
pub mod Theorem
pub mod Words
