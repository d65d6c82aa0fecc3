pub mod Examples
pub mod Places
pub mod Promise
pub mod Refused
pub mod Till
