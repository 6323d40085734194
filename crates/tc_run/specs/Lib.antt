pub mod Run
pub mod End
