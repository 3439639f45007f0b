pub mod Content
pub mod ContentLaws
pub mod Laws
pub mod LiftLaws
pub mod Lifting
pub mod Values
pub mod WholeArithmetic
pub mod WholeModel
