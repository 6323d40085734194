pub mod Following
pub mod Lawful
