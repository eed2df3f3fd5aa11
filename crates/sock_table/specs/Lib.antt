pub mod ReferenceCalls
pub mod ReferenceAnswers
pub mod LinkPasses
pub mod NamesStoredAndFound
pub mod ClosedSocketTable
pub use Rattle.sock_rule.specs.slot_steps
