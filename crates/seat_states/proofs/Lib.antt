pub mod ProgramBehindSteps
pub mod StepFacts
pub mod AsidesAndAttempts
