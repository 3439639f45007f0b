pub mod Masked
pub mod Outside
pub mod Quiet
pub mod QuietLaws
