pub mod NoteSteps
pub mod Images
mod Reach
mod Table
