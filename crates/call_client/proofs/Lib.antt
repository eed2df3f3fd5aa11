pub mod KnowingOperationNames
pub mod RunBehindOperation
pub mod StarvedCallsNotRetried
pub mod ClientAfterOperations
pub mod ClientCallChanges
pub mod Shares
pub mod EndedCallsTelling
pub mod TestingTables
