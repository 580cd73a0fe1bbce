pub mod OutsideLaws
pub mod DeviceLaws
pub mod HostLaws
