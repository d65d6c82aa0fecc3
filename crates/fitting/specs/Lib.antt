pub mod Examples
pub mod Fitting
pub mod Promise
