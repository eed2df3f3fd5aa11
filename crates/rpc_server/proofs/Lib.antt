pub mod ByteTotals
pub mod AnsweringFrames
pub mod Fed
pub mod SmallFrames
pub mod ResponseMetaSize
pub mod RequestMetaLeast
pub mod ReplySize
