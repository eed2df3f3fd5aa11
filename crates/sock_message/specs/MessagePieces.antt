-- A message on its way, and what is put next of it.
use Rattle.std.specs.Prelude.{ℕ, ◌-◌, ◌%◌, List, take}

-- what is put next of a message of which a link took so many bytes and this is left: up to the end of a block of 8,192
abbrev pub piece : List ℕ → ℕ → List ℕ
piece left taken = take (8192 - taken % 8192) left

-- a message on its way: what a link hasn't taken of it yet, and how many bytes it took
pub record OnItsWay : Type 0 where
  pub left : List ℕ
  pub taken : ℕ
