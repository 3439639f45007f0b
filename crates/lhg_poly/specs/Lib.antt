pub mod Clash
pub mod ClosureLaws
