pub mod Packed
pub mod Orders
pub mod Keeping
pub mod Served
pub mod Behind
pub mod Opening
pub mod Marks
