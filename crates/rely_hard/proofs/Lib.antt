pub mod Distinct
pub mod Kept
pub mod Lists
pub mod Said
pub mod Utf8
