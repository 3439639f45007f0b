mod MotionExamples
mod ReachExamples
