pub mod Counted
pub mod Fitting
pub mod Given
pub mod Serving
pub mod Telling
