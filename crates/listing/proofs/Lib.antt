pub mod Down
pub mod Left
pub mod Pairs
pub mod Pass
