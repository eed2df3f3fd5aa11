pub mod PointsAtSteps
pub mod HeldLives
pub mod GoingOn
pub mod FollowsByStepKind
pub mod Prepared
