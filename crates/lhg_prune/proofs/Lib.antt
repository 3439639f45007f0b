pub mod ListSteps
pub mod ProjectSteps
