pub mod Build
pub mod Described
pub mod Code
pub mod Generator
pub mod Loaded
