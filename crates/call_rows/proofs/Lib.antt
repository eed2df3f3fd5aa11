mod CallScriptRows
mod DrawnSchedules
