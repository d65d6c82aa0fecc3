pub mod Bare
pub mod Polling
