pub mod ReportLines
pub mod OrderRows
pub mod RunSummary
