pub mod GeneratedPlant
pub mod GeneratedText
pub mod Sizes
