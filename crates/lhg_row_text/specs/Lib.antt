pub mod PointText
pub mod PrintedLine
pub mod RowText
pub mod Short
pub mod TextExamples
