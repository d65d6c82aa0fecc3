pub mod Search
pub mod Marks
pub mod Sizes
pub mod Theorem
pub mod Both
