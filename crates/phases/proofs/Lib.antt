pub mod Crew
pub mod Events
pub mod Formed
pub mod Formula
pub mod Roomy
pub mod Rounds
pub mod Steps
