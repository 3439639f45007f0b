pub mod CrossSteps
