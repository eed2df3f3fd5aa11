pub mod BoundsOfAttempts
pub mod SendersWithCalls
pub mod Last
pub mod ReadingKeepsAttempts
pub mod RetriedAdvances
pub mod RetriedLast
pub mod AttemptsOfCallsTold
