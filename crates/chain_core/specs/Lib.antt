pub mod RequestStepConditions
pub mod RightsOfIdleHead
pub mod TakenRequestNote
pub use Rattle.sock_steps.specs.chain_steps
pub use Rattle.sock_steps.specs.slot_steps
pub use Rattle.sock_steps
