pub mod Branching
pub mod Picking
pub mod Strategy
