pub mod SocketTableOpening
pub mod NewTableContents
pub use Rattle.sock_table.specs.slot_steps
