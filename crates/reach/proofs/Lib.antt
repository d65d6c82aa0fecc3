pub mod Carrying
pub mod Examples
pub mod Keys
pub mod Theorem
