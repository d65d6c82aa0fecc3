pub mod Bytes
pub mod Complete
pub mod Laws
pub mod Records
pub mod Sound
pub mod Theorem
pub mod Unique
