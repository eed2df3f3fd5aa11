pub mod OpensStored
pub mod WordsGiven
pub mod OwnsLoops
pub mod OwnsSends
pub mod OwnsCalls
pub mod OwnsSteps
pub mod OwnsTicks
pub mod OwnsRuns
