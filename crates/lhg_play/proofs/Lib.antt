pub mod CallSteps
pub mod CutPlaces
pub mod Inserting
pub mod JoinSteps
pub mod TurnPlaces
