pub mod Ahead
pub mod Memory
pub mod Parts
pub mod Turn
pub mod Reads
pub mod Replay
pub mod InPlace
pub mod Own
