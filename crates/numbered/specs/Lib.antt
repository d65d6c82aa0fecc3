pub mod Batch
pub mod Examples
pub mod Lists
pub mod Numbers
