pub use Rattle.program_steps
