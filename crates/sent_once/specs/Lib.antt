pub use Rattle.accept_counts
pub use Rattle.accept_counts.specs.Below
