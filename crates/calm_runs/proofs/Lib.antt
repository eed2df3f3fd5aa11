pub mod CalmReaderPrograms
pub mod TicksOfCalmSeats
pub mod RestingWithoutJoin
pub mod CalmAlongTicks
pub mod Nothing
