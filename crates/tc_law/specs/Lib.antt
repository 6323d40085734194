pub mod History
pub mod Lawful
pub mod Account
