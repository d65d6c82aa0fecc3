pub mod LineByLine
pub mod Lines
pub mod Parts
pub mod Theorem
pub mod WholeSheet
