-- What the crates above name of `rpc_reader`.
pub use Rattle.call_run.specs.rpc_reader.specs.ReaderBooks
pub use Rattle.call_run.specs.rpc_reader.specs.ReaderSocketFailing
pub use Rattle.call_run.specs.rpc_reader.proofs.FramesMetInTurn
pub use Rattle.call_run.specs.rpc_reader.specs.declared.reading.How
pub use Rattle.call_run.specs.rpc_reader.specs.declared.reading.How.TheVariants as HowVariants
pub use Rattle.call_run.specs.rpc_reader.specs.Met
pub use Rattle.call_run.specs.rpc_reader.specs.PostingAtReadingEnd
pub use Rattle.call_run.specs.rpc_reader.specs.LinkReading
pub use Rattle.call_run.specs.rpc_reader.specs.CallsLeftAfterReading
pub use Rattle.call_run.specs.rpc_reader.specs.ReaderRunFromOpen
pub use Rattle.call_run.specs.rpc_reader.specs.ReadingTakeByTake
pub use Rattle.call_run.specs.rpc_reader.specs.Throwing
