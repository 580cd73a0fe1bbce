pub mod Pieces
pub mod Places
pub mod Settings
pub mod Zips
