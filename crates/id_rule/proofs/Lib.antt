pub mod OtherIdsUntouched
pub mod AllowedIdSteps
pub mod KeptOperationWords
