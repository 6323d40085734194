pub mod Profile
pub mod Tally
pub mod Stands
pub mod Text
