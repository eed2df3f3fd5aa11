pub mod MachineBeginning
pub use Rattle.machine_ticks
