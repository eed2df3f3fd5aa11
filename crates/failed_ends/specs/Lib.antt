pub use Rattle.failed_reasons.specs.attempts_told
pub use Rattle.failed_reasons.specs.call_whys
pub use Rattle.failed_reasons
pub use Rattle.failed_reasons.specs.Below
