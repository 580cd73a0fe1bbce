pub mod Going
pub mod Laws
pub mod Listed
pub mod Setup
pub mod Trial
