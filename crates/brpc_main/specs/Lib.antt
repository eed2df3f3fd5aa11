pub mod CommandLineWords
pub mod EarlyEndReasons
pub mod ProgramEnding
