pub mod Lines
pub mod Core
pub mod Events
pub mod Stories
pub mod Theorem
pub mod Alive
pub mod View
