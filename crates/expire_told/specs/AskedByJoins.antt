-- What each `join` of a script asks for.
use Rattle.std.specs.Prelude.{◌≡◌, ℕ, List, Option}
use Rattle.sock_words.specs.declared.outcome.Outcome.{Outcome}
use Rattle.seat_programs.specs.declared.task.Op.TheVariants as ops
use Rattle.seat_programs.specs.declared.task.Task.{Task}
use Rattle.seat_programs.specs.Explained.{IsTask}
use Rattle.sock_message.specs.Asked.{Asked}

-- whatever has the number of which a `join` asks is a call
abbrev pub AreJoinsOfCalls : List (List Task) → List (Option Outcome) → Type 0
AreJoinsOfCalls clients outcomes = (c d : ℕ) (t u : Task) → IsTask clients outcomes c t → t.op ≡ ops.Join u.number → IsTask clients outcomes d u → (asked : Asked) × (u.op ≡ ops.Call asked)
