pub mod Applying
pub mod Examples
pub mod Fitting
pub mod Numbers
pub mod Opening
pub mod Running
