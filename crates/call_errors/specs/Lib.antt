pub mod ClientBooks
pub mod LockingByVersion
pub mod CallEndsWithCode
pub mod Handling
pub mod PostedErrors
pub mod ExpireAndJoinOutcomes
pub mod Starving
pub use Rattle.rpc_client
