-- What the crates above name of `sock_table`.
pub use Rattle.call_run.specs.sock_table.specs.ReferenceAnswers
pub use Rattle.call_run.specs.sock_table.specs.declared.passes.LinkPass
pub use Rattle.call_run.specs.sock_table.specs.NamesStoredAndFound
pub use Rattle.call_run.specs.sock_table.specs.declared.finding.Noted.TheVariants as NotedVariants
pub use Rattle.call_run.specs.sock_table.specs.ReferenceCalls
pub use Rattle.call_run.specs.sock_table.specs.declared.refs.SockRef
