pub mod Reasons
pub mod Rejected
pub mod Run
pub mod Taken
