pub mod Lengths
pub mod LinesSay
pub mod MoreLines
pub mod NumberedNames
pub mod PlantIs
pub mod ReadsBack
