pub mod Lists
pub mod Read64
pub mod Said
pub mod Starts
pub mod Utf8
