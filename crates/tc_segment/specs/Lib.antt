pub mod View
pub mod Packed
pub mod Edges
pub mod Draft
pub mod Kept
pub mod Lent
