pub use Rattle.chain_steps
pub use Rattle.slot_steps
