pub mod Machine
pub mod Locality
pub mod Blocks
pub mod Slow
pub mod Turned
pub mod Entries
pub mod Progress
