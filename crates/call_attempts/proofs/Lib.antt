pub mod LeftByAttempt
pub mod LockingIds
pub mod Framing
