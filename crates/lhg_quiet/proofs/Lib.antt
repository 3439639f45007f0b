pub mod Agreeing
pub mod ChangeSteps
pub mod MarkSteps
pub mod Masking
pub mod PlaceSteps
pub mod QuietSteps
pub mod Renewing
