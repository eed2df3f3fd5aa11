-- What the crates above name of `call_writes`.
pub use Rattle.call_run.specs.call_client.specs.call_writes.specs.Draining
pub use Rattle.call_run.specs.call_client.specs.call_writes.proofs.Drains
pub use Rattle.call_run.specs.call_client.specs.call_writes.specs.MessageFateBesideCalls
