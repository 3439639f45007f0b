pub mod Advice
pub mod Allowed
pub mod Judgement
pub mod Report
