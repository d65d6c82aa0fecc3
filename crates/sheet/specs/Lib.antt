pub mod Promise
pub mod Replay
pub mod Valid
