pub mod History
pub mod Promise
