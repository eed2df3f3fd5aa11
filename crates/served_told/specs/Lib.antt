pub mod ServedLinksTelling
pub use Rattle.served_calls
pub use Rattle.failed_told
