pub mod ProgramAtPoint
pub mod ProgramStepsOfMachine
pub use Rattle.program_steps
