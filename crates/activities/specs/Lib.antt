pub mod Activities
pub mod Kinds
