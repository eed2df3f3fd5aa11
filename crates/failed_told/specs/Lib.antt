pub use Rattle.failed_ends.specs.attempts_told
pub use Rattle.failed_ends.specs.call_whys
pub use Rattle.failed_ends
pub use Rattle.failed_ends.specs.failed_reasons
pub use Rattle.failed_ends.specs.Below
