pub mod Replacing
pub mod Walking
