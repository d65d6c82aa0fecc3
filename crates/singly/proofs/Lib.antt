pub mod Singly
