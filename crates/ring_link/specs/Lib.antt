pub mod Cells
pub mod RingHalves
pub mod InsideRingLink
pub mod RingLinker
