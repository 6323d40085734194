pub mod Rule
pub mod EndView
pub mod ReadyView
pub mod Crew
pub mod Scan
pub mod Law
