pub mod Answered
pub mod Filling
