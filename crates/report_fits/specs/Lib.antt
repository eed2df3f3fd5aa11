pub mod ScriptLinkEnds
pub mod OwedInCalmRuns
pub use Rattle.script_facts
