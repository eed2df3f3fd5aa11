pub mod LivesPastAtEnd
pub mod WholeOwing
pub mod NothingOwedAtEnd
pub mod ClosedPast
pub mod OwedPremisesAtTicks
pub mod OwedCallsAreEnded
