pub mod Answering
pub mod One
pub mod Store
