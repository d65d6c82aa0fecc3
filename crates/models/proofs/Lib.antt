pub mod Promises
pub mod Within
