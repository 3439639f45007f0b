pub mod InitWholes
pub mod MovesWholes
pub mod PartRefusals
pub mod Parts
pub mod Readings
pub mod Splits
pub mod TextParts
pub mod Wholes
