pub mod Loops
pub mod Printing
