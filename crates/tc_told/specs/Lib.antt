pub mod Written
pub mod View
pub mod Handover
pub mod Existence
