pub mod Scripts
pub mod Accounting
pub mod Endings
pub mod QueueEnds
