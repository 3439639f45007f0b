pub mod Answers
pub mod Numbers
pub mod Seen
pub mod Stop
pub mod StopFor
pub mod Views
