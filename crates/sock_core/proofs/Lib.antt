pub mod LeadingTicks
pub mod SettlingRounds
pub mod Rounding
pub mod MachineBeforeEnding
pub mod OnePlaceWordMore
pub mod Starting
pub mod MachineMaking
