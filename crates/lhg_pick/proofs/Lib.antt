pub mod PickSteps
