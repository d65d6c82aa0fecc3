pub mod Flaws
pub mod Promise
