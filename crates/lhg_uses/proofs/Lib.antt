pub mod AdviceSteps
pub mod ReportSteps
