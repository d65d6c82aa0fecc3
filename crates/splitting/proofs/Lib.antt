pub mod Ends
pub mod Parts
pub mod Places
pub mod Scans
