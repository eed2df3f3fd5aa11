pub mod TellersOfCallEnds
pub mod ToldOnce
pub mod Least
pub use Rattle.call_deeds
pub use Rattle.call_deeds.specs.call_places
pub use Rattle.call_deeds.specs.Below
