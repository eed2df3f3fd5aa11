-- Fields that stand next in some bytes.
use Rattle.std.specs.Prelude.{ℕ, ◌≡◌, ◌≤◌, ◌⊎◌, List, length, slice_range}
use Rattle.pb_wire.specs.brpc_model.specs.Wire.{Varint, Span}
use Rattle.pb_wire.specs.Form.{IsField}

-- bytes of this number stand from this place up to another, as a field
pub record SpanNext (bytes : List ℕ) (number at from to : ℕ) : Type 0 where
  pub later : at ≤ to
  pub order : from ≤ to
  pub inside : to ≤ length bytes
  pub spelled : IsField at (slice_range bytes at to) (record { number = number; value = Span from (slice_range bytes from to) })

-- a number of this number stands from this place up to another, as a field
pub record NumberNext (bytes : List ℕ) (number at n to : ℕ) : Type 0 where
  pub later : at ≤ to
  pub inside : to ≤ length bytes
  pub spelled : IsField at (slice_range bytes at to) (record { number = number; value = Varint n })

-- or it is 0, and not spelled
abbrev pub NumberOrNone : List ℕ → ℕ → ℕ → ℕ → ℕ → Type 0
NumberOrNone bytes number at n to = ((to ≡ at) × (n ≡ 0)) ⊎ NumberNext bytes number at n to
