pub mod Feed
pub mod Promise
pub mod Whole
