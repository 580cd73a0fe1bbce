pub mod Answer
pub mod Lines
pub mod Printing
pub mod Promises
