pub mod Checks
pub mod Cut
pub mod Slots
pub mod Views
