pub mod ReaderPoints
pub mod ReaderCodeSteps
pub mod CutsInHand
pub mod KeptResponses
