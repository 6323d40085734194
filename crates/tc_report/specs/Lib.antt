pub mod Written
pub mod Logs
pub mod Pieces
pub mod Results
pub mod Report
pub mod Legal
pub mod Outcome
pub mod Summary
