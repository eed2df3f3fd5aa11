pub mod ExpireOutcomesSaid
pub mod AskedByJoins
pub use Rattle.call_told.specs.call_deeds
pub use Rattle.call_told.specs.call_places
pub use Rattle.call_told
pub use Rattle.call_told.specs.Below
