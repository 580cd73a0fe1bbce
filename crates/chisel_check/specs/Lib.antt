pub mod Prices
pub mod Walk
pub mod Failures
