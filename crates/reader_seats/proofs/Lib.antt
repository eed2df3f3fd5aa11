pub mod ProgramAtNextStep
pub mod ReaderFollows
pub mod ReaderBehindSteps
