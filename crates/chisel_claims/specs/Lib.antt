pub mod Needs
pub mod Promises
pub mod Verdicts
