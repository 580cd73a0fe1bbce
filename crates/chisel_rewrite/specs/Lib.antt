pub mod Alike
pub mod Laws
pub mod Namings
pub mod Texts
