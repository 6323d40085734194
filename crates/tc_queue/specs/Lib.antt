pub mod Words
pub mod Calls
pub mod Order
pub mod Asked
pub mod Steps
pub mod View
pub mod Lines
pub mod Laws
