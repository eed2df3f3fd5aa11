pub mod LineByLine
pub mod TasksOfLines
