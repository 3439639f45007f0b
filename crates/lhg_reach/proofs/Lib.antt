pub mod Befores
pub mod Cases
pub mod Growing
pub mod Newest
pub mod Pairs
pub mod Searches
