pub mod Carrying
pub mod Walk
pub mod Walking
