pub mod SuccessiveTextWriting
pub mod Digits
pub mod PrintedFrameCuts
pub mod PrintingEnds
pub mod PieceLemmas
pub mod FrameLines
pub mod CutterHoldingSize
pub mod ReadFeedCutSteps
