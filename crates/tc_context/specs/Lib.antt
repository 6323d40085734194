pub mod Locks
pub mod Whole
pub mod Middle
pub mod Run
pub mod View
pub mod Kept
pub mod Ran
pub mod Block
