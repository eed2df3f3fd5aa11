-- The adapter over std's readers and writers, by what callers see of it.
use Rattle.std.specs.Prelude.{ℕ}

-- the reader or writer, and the count of faults
pub record EdgeState (T : Type 0) : Type 0 where
  pub inner : T
  pub faults : ℕ
