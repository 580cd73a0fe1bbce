pub mod Cost
pub mod EnergySums
pub mod Going
pub mod Laws
pub mod Run
pub mod Starts
pub mod Table
