-- What was read from a source.
use Rattle.std.specs.Prelude.{ℕ, ◌≡◌, ◌≢◌, ◌≤◌, ◌+◌, List, [], length, Vec, Option, IfSome, IfOk, IsErrOf, Result, Err}
use Rattle.std.specs.Io.KnownBytes.{Consumes}
use Rattle.std.specs.declared.alloc.Global.{Global}
use Rattle.brpc_eng.specs.declared.streams.InputFault.{InputFault}
use Rattle.brpc_eng.specs.declared.streams.InputFault.TheVariants as fault

-- the most bytes that a script has
abbrev pub script_limit : ℕ
script_limit = 1048576

-- nothing is left of what the source had to give, where it tells
abbrev pub IsAtEnd : Option (List ℕ) → Type 0
IsAtEnd left = IfSome left (λ bytes. bytes ≡ [])

-- these bytes came, and they are the whole input, or the reading ended for the reason that is answered
pub record ReadWhole (before after : Option (List ℕ)) (bytes : List ℕ) (result : Result (Vec ℕ Global) InputFault) : Type 0 where
  pub came : Consumes before after bytes
  pub whole : IfOk result (λ read. (read.items ≡ bytes) × IsAtEnd after)
  -- too many are one more than a script may have
  pub too_long : IsErrOf result fault.TooLong → length bytes ≡ script_limit + 1
  pub within : result ≢ Err fault.TooLong → result ≢ Err fault.NoMemory → length bytes ≤ script_limit
  pub most : length bytes ≤ script_limit + 1
