pub mod Rim
pub mod RimCalculus
pub mod RimFacts
pub mod RimLaws
pub mod WorkedRims
