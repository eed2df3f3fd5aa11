pub mod RestsWithoutOpenIds
pub mod RepliesOfReportedRun
pub mod WholeCallReport
pub mod ServedReportFits
