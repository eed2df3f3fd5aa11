pub mod MessageModel
pub mod MessageStanding
pub mod MessageEventOfStep
