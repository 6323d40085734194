pub mod Numbered
pub mod Ranges
pub mod Outcomes
pub mod Chunks
pub mod Rows
pub mod Writing
