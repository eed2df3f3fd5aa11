-- What the crates above name of `rpc_client`.
pub use Rattle.call_run.specs.call_client.specs.rpc_client.specs.FailOutcomes
pub use Rattle.call_run.specs.call_client.specs.rpc_client.specs.declared.holding.Held
pub use Rattle.call_run.specs.call_client.specs.rpc_client.specs.HoldAndDropOutcomes
pub use Rattle.call_run.specs.call_client.specs.rpc_client.specs.OpenOutcomes
pub use Rattle.call_run.specs.call_client.specs.rpc_client.specs.ToldOfOperation
pub use Rattle.call_run.specs.call_client.specs.rpc_client.specs.SendingOutcomes
pub use Rattle.call_run.specs.call_client.specs.rpc_client.specs.declared.acting.Told
