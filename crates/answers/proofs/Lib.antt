pub mod Batches
pub mod Counts
pub mod Numbering
pub mod Rounds
