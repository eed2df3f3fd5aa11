pub mod Locks
pub mod FramesMetInTurn
pub mod SuccessiveTakes
pub mod PostsToEachCall
pub mod ReaderSocket
pub mod FramesOfTakenStream
pub mod Series
pub mod NotedCallEnds
