pub mod PolyLists
pub mod Regions
