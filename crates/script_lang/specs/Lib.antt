pub mod CountedLines
pub mod OperationNumbers
pub mod CallsUsedByLines
pub mod KnownLines
pub mod TasksByLine
