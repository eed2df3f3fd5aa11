pub mod Joint
pub mod BothTablesSound
pub mod StartsWithBothRules
pub mod RunsOfBothTables
pub mod ScriptTablesMade
