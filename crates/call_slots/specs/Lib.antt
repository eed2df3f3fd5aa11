pub mod CallSlotState
pub mod CallSlotSteps
pub mod WordOfStep
