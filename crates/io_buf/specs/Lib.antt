pub mod Buffer
pub mod Fault
pub mod ReferencesInRow
pub mod InsideBuffer
pub use Rattle.io_block
