pub mod TextWrittenToSink
pub mod FrameLineView
pub mod LinePieceTexts
pub mod PrintedFrames
pub mod FrameEnd
pub mod Cutting
pub mod FaultParts
