pub mod BoundView
pub mod Boxes
pub mod Hint
pub mod Laws
pub mod Mixed
pub mod Others
pub mod Verdict
