pub mod Fields
pub mod Gathered
pub mod Sought
