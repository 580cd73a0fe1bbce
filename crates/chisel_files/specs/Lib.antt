pub mod Choosing
pub mod Contents
pub mod Files
pub mod Front
pub mod Refused
pub mod Works
