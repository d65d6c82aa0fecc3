pub mod Fields
pub mod Widths
