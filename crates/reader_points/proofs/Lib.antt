pub mod FramesInHand
pub mod ReaderBehindTake
pub mod CutFrames
pub mod ReaderAfterWordSteps
pub mod FirstKept
pub mod StepKinds
