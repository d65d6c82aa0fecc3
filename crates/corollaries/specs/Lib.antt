pub mod Altered
pub mod Corollaries
pub mod Lengths
pub mod Meanings
pub mod OneAdded
