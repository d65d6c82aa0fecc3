pub mod Bytes
pub mod Digits
pub mod Fields
pub mod Numbers
pub mod Promise
pub mod Put
