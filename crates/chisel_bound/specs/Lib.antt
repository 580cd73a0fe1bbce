pub mod Pool
pub mod Weights
pub mod Ascent
pub mod BoundsAt
pub mod Columns
pub mod Written
pub mod Rows
pub mod Kept
