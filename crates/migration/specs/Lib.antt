pub mod Calls
pub mod Claim
pub mod Courses
pub mod Examples
pub mod Lists
pub mod Promise
pub mod Tasks
