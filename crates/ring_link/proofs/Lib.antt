pub mod CellLists
pub mod RingEndFindings
mod Insides
pub mod Peers
mod Repeating
