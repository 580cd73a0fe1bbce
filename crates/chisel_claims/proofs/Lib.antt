pub mod Claiming
pub mod Holding
