pub mod Counts
pub mod WorkedCrossings
