-- A number in its range, as words of a command line and of a script have it.
use Rattle.std.specs.Prelude.{ℕ, List, Option, Some, None, Ok, Err}
use Rattle.brpc_model.specs.LinePartReads.{Reads}
use Rattle.brpc_model.specs.Text.{number_in}

-- what was read
abbrev pub ok_of : Reads ℕ → Option ℕ
ok_of (Ok n) = Some n
ok_of (Err kind) = None

-- a number in its range, decimal and without leading zeros
abbrev pub number : ℕ → ℕ → List ℕ → Option ℕ
number low high word = ok_of (number_in low high word)
