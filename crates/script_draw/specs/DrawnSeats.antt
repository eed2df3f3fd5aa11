-- The seats that are drawn for `sim`, as they are given one after another.
use Rattle.std.specs.Prelude.{ℕ, ◌+◌, ◌*◌, ◌==◌, if◌then◌else◌}

-- how many clients and links there are, and the state of the draws
pub record SeatDraws : Type 0 where
  pub clients : ℕ
  pub links : ℕ
  pub state : ℕ

-- how many seats are drawn, of so many in all, for so many operations
abbrev pub seat_count : ℕ → ℕ → ℕ
seat_count total operations = if total == 0 then 0 else 64 * operations + 256
