pub mod BadLine
pub mod Inputs
pub mod Then
