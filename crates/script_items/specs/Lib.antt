pub mod NameList
pub mod LineMeaning
pub mod PartReaderAnswers
pub mod FollowingLineWords
pub mod LineParts
pub mod Options
pub mod CallBodies
