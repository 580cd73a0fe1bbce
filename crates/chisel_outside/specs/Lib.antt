pub mod Outside
pub mod Device
pub mod Memory
pub mod Host
