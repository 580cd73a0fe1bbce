pub mod Meaning
pub mod Open
