pub mod Tasks
pub mod TasksTaken
pub mod StoppedQueue
pub mod Submitters
pub mod NewQueue
pub mod EndedQueue
pub mod LinesInOrder
