pub mod Lists
pub mod LeastPlaces
pub mod Ascents
pub mod Ranges
pub mod Adding
pub mod Nothing
pub mod Debits
pub mod Putting
pub mod Keeps
mod Examples
