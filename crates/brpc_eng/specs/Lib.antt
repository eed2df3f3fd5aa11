pub mod WholeSourceRead
pub mod ProgramAnswers
pub mod Input
pub mod StatusNumbers
pub mod CommandWords
pub mod Command
pub use Rattle.script_run
