-- What the crates above name of `write_chain`.
pub use Rattle.call_run.specs.call_client.specs.write_chain.proofs.Accepting
pub use Rattle.call_run.specs.call_client.specs.write_chain.specs.NotingWhileWriting
pub use Rattle.call_run.specs.call_client.specs.write_chain.specs.declared.entry.Refused
pub use Rattle.call_run.specs.call_client.specs.write_chain.specs.declared.entry.Refused.TheVariants as RefusedVariants
pub use Rattle.call_run.specs.call_client.specs.write_chain.specs.declared.right.Undelivered
