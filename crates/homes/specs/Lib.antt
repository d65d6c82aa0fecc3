pub mod Homes
pub mod Promise
