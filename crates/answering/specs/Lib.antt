pub mod One
pub mod Store
