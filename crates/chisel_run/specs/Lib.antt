pub mod Answer
pub mod Calls
pub mod Courses
pub mod Simulations
