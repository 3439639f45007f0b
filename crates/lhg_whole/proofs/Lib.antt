pub mod Fields
pub mod Formed
pub mod LiftSteps
pub mod Steps
