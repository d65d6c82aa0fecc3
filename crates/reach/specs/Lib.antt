pub mod Examples
pub mod Promise
pub mod Reach
