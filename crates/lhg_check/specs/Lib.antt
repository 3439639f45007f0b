pub mod Check
pub mod CheckFacts
pub mod CheckLaws
pub mod Views
pub mod WorkedChecks
