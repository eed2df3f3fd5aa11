pub mod ReaderState
pub mod ResponseInHand
pub mod InsideReaderSeat
pub mod ReaderGoesOn
