pub use Rattle.expire_told.specs.call_deeds
pub use Rattle.expire_told.specs.call_places
pub use Rattle.expire_told.specs.call_told
pub use Rattle.expire_told
pub use Rattle.expire_told.specs.Below
