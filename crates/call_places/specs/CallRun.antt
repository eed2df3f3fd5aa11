-- What the crates above name of `call_run`.
pub use Rattle.call_run.specs.EndingOfSockets
pub use Rattle.call_run.specs.declared.opened.Opening
pub use Rattle.call_run.specs.ReadersOfLinks
pub use Rattle.call_run.specs.Threads
