pub mod DecisionOnError
pub mod ResponseEndsCall
