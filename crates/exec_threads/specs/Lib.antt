pub mod TasksOfLines
pub mod LinesDone
pub mod ScriptDone
