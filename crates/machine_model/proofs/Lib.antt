pub mod Same
pub mod FirstSteps
pub mod PointFacts
pub mod MachineLengths
pub mod TableRoom
pub mod Tellings
