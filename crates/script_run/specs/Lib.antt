pub mod RunOutcomeCauses
pub mod Outlines
pub mod Played
