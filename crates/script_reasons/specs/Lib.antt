pub mod ScriptFaultWords
pub mod KeptSource
