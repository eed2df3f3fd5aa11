pub mod LoopsOfKnownSeats
pub mod OperationsKeepKnown
pub mod ProgramsKeepAttempts
