pub mod Deal
pub mod Promise
pub mod Reached
