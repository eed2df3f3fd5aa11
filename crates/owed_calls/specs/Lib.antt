pub use Rattle.owned_ids.specs.call_owing
pub use Rattle.owing_ticks
pub use Rattle.owned_ids
pub use Rattle.owned_ids.specs.Below
