pub mod Ascending
pub mod Cases
pub mod Kept
pub mod Laws
pub mod NoLock
mod DoneTold
mod Slots
pub mod Loaded
pub mod Touches
