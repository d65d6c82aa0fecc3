pub mod Adding
pub mod Opening
