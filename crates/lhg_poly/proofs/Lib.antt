pub mod AskSteps
pub mod ClashSteps
pub mod MakeSteps
