pub mod Tree
pub mod Shape
pub mod Counts
pub mod Limits
pub mod Marks
