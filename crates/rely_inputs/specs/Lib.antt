pub mod Said
pub mod Samples
