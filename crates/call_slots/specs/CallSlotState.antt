-- The ids and calls of a machine, as its contracts see them.
use Rattle.std.specs.Prelude.{ℕ, Bool, List}
use Rattle.std.specs.Prelude as std
use mathlib.Core.Option.{Option, some, none}
use Rattle.corr_core.specs.declared.marks.Plan.{Plan}
use Rattle.sock_message.specs.Asked.{Asked}
use Rattle.seat_programs.specs.LoopHeads.{Retry}
use Rattle.seat_programs.specs.Cores.{Calls}

pub record SlotState : Type 0 where
  pub plan : Plan
  pub words : List ℕ
  pub homes : List (Option (std.Option Asked))

-- with these retries that wait, what the links gave, and whether the run is ending
abbrev pub calls_with : SlotState → List (List Retry) → List (List ℕ) → Bool → Calls
calls_with s waiting gave ending = record { plan = s.plan; words = s.words; homes = s.homes; waiting = waiting; gave = gave; ending = ending }

-- what was found or not, as the programs have it
abbrev pub as_found : std.Option Asked → Option Asked
as_found (std.Some asked) = some asked
as_found std.None = none
