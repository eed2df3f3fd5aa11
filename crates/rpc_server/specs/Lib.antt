pub mod ServiceAnswers
pub mod ReplySize
pub mod HeldByConnection
pub mod InsideConnection
pub mod Feeding
