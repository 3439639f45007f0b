pub mod Before
pub mod FoundParts
pub mod Neighbours
pub mod Newest
pub mod Searching
pub mod Widths
pub mod WorkedReach
