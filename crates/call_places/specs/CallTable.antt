-- What the crates above name of `call_table`.
pub use Rattle.call_run.specs.rpc_reader.specs.call_table.specs.declared.errors.Decision.TheVariants as DecisionVariants
