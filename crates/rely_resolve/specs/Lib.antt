pub mod Faults
pub mod Kernels
pub mod Laws
pub mod Linked
pub mod Marked
pub mod Names
pub mod Reached
pub mod Table
