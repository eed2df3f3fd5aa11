pub mod LawfulIdTable
pub mod IdPlays
