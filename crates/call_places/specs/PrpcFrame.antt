-- What the crates above name of `prpc_frame`.
pub use Rattle.call_run.specs.rpc_reader.specs.prpc_frame.specs.declared.frame.Frame
pub use Rattle.call_run.specs.rpc_reader.specs.prpc_frame.specs.FrameMeaning
