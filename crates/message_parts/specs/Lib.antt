pub mod FramesByParts
pub mod Parcels
