pub mod AnyNumber
pub use Rattle.sock_table.specs.slot_steps
