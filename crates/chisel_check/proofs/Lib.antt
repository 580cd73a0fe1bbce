pub mod Walks
pub mod Fits
pub mod Failing
pub mod Keeping
