-- What a source and a sink tell of themselves.
use Rattle.std.specs.Prelude.{ℕ, List, Option}

-- what reads will give from here on, where the source tells, and its count of faults
pub record SourceState : Type 0 where
  pub left : Option (List ℕ)
  pub faults : ℕ

-- all that a sink took, where it tells, and its count of faults
pub record SinkState : Type 0 where
  pub contents : Option (List ℕ)
  pub faults : ℕ
