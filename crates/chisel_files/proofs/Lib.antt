pub mod Problems
pub mod Opening
pub mod Refusing
pub mod Steps
pub mod Working
