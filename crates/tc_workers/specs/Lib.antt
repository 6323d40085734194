pub mod Worker
pub mod Search
pub mod StepWith
pub mod Turns
pub mod Crew
pub mod Rows
pub mod Run
pub mod Machine
