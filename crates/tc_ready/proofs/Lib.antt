pub mod Keeping
pub mod Stealing
pub mod Crews
pub mod Counting
pub mod Emptying
pub mod Scanning
