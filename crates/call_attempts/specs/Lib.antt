pub mod ClientAtBothTables
pub mod AttemptLetters
pub mod Attempting
pub mod CallBeginning
pub mod WaitingRetries
pub use Rattle.call_writes
pub use Rattle.write_chain.specs.sock_open
pub use Rattle.write_chain
