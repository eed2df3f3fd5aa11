-- How far a client has come when it makes no further operation, and what is left of its list.
use Rattle.std.specs.Prelude.{◌≡◌, ◌⊎◌, ℕ, ◌≤◌, Bool, true, false, List, ◌∷◌, drop, length}
use Rattle.sock_io.specs.declared.link.Out.{Ghosts}
use Rattle.sock_io.specs.LinkHalves.{OutState}
use Rattle.sock_words.specs.declared.plain.Plan.{Plan}
use Rattle.corr_core.specs.declared.marks.Plan as id_plan
use Rattle.sock_message.specs.Asked.{Asked}
use Rattle.seat_programs.specs.declared.task.Op.{Op}
use Rattle.seat_programs.specs.declared.task.Op.TheVariants as ops
use Rattle.seat_programs.specs.declared.task.Task.{Task}
use Rattle.call_client.specs.declared.caller.Caller.{Caller}
use Rattle.call_client.specs.ClientBetweenOperations.{Stand, stand, KeepsOwn}
use Rattle.call_client.specs.ClientRun.{RetriedHere, NotCalled, Stops, RanTo}

-- of all operations only a call is not made where it is its turn
abbrev pub NotMade : {O : Type 0} {g : Ghosts O} → (O → OutState) → Plan → id_plan.Plan → Op → Stand g → Stand g → Type 0
NotMade state p q (ops.Call asked) s t = NotCalled state p q asked s t × KeepsOwn s t
NotMade state p q _ s t = ⊥

-- what is left behind the first n, but for a call that was not made
abbrev pub IsRest : List Task → ℕ → List Task → Type 0
IsRest xs n rest = (drop n xs ≡ rest) ⊎ ((number : ℕ) × (asked : Asked) × (drop n xs ≡ record { number = number; op = ops.Call asked } ∷ rest))

-- behind the first n, before calls are ended for want of memory
abbrev pub ComesTo : {O : Type 0} {g : Ghosts O} → (O → OutState) → Plan → id_plan.Plan → (short : Bool) → List Task → ℕ → Stand g → Stand g → Type 0
ComesTo state p q false xs n s t = (n ≡ length xs) × RetriedHere state p q s t
ComesTo state p q true xs n s t = Stops state p q xs n s t

-- the first operations were made, and then a client came to something by that
pub record CameBy {O : Type 0} {g : Ghosts O} (state : O → OutState) (p : Plan) (q : id_plan.Plan) (by : ℕ → Stand g → Stand g → Type 0) (xs rest : List Task) (c d : Caller O g) : Type 0 where
  pub made : ℕ
  pub few : made ≤ length xs
  pub came : Caller O g
  pub ran : RanTo state p q xs made c came
  pub told : d.outcomes ≡ came.outcomes
  pub ends : by made (stand came) (stand d)
  pub left : IsRest xs made rest
