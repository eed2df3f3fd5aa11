-- What the crates above name of `sock_rule`.
pub use Rattle.call_run.specs.sock_rule.specs.MarksComeAndGo
pub use Rattle.call_run.specs.sock_rule.specs.ClosingWordsAndNotes
pub use Rattle.call_run.specs.sock_rule.specs.declared.homes.Letter
pub use Rattle.call_run.specs.sock_rule.specs.OnTable
pub use Rattle.call_run.specs.sock_rule.specs.Shows
pub use Rattle.call_run.specs.sock_rule.specs.declared.homes.SockHome
