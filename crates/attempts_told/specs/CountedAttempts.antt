-- How many attempts each call made, and which of them the links accepted.
use Rattle.std.specs.Prelude.{ℕ, ◌≡◌, ◌+◌, ◌<◌, ◌≤◌, ◌==◌, cond, max, List, [], ◌∷◌, Option}
use Rattle.std.specs.List.{AllByRecursion}
use Rattle.sock_words.specs.declared.outcome.Outcome.{Outcome}
use Rattle.sock_words.specs.declared.plain.Plan.{Plan}
use Rattle.corr_core.specs.declared.marks.Note.{Note}
use Rattle.corr_core.specs.declared.marks.Note.TheVariants.{Attempt}
use Rattle.corr_core.specs.declared.marks.Noted.{Noted}
use Rattle.id_rule.specs.LawfulIdTable.{notes_of}
use Rattle.sock_message.specs.Asked.{Asked}
use Rattle.seat_programs.specs.declared.task.Op.TheVariants as ops
use Rattle.seat_programs.specs.declared.task.Task.{Task}
use Rattle.seat_programs.specs.Explained.{IsTask}
use Rattle.seat_programs.specs.ExplainedCalls.{Order, Fixed, IsSent}
use Rattle.call_whys.specs.call_told.specs.Least.{is_made_for}
use Rattle.sock_words.specs.Totals.{total}

-- ## The last attempt

-- the attempt to which the id of this operation's call advanced by a note of a slot with these notes, 0 by any other note
abbrev pub advanced_to : ℕ → List (Note Asked) → Note Asked → ℕ
advanced_to operation in_slot (Attempt first n) = cond (total (is_made_for first operation) in_slot == 0) 0 n
advanced_to operation in_slot _ = 0

-- by these among all notes
abbrev pub last_among : ℕ → List (Noted Asked) → List (Noted Asked) → ℕ
last_among operation all [] = 0
last_among operation all (n ∷ ns) = max (advanced_to operation (notes_of n.slot all) n.note) (last_among operation all ns)

-- the last attempt of an operation's call, by what all seats noted of its id: 0 where it never advanced
abbrev pub last_attempt : List (Noted Asked) → ℕ → ℕ
last_attempt notes operation = last_among operation notes notes

-- ## What is told of attempts

module _ (p : Plan) (clients : List (List Task)) (outcomes : List (Option Outcome)) (fixed : Fixed) (gave : ℕ → List ℕ) (orders : ℕ → Order) where
  pub record AreAttemptsTold : Type 0 where
    -- the last attempt of each call
    pub last : ℕ → ℕ
    -- there are no more attempts of a call than it may have
    pub few : (client : ℕ) (t : Task) (asked : Asked) → IsTask clients outcomes client t → t.op ≡ ops.Call asked → last t.number + 2 ≤ asked.range
    -- each message that a link accepted is that of a `send` of which nothing is said, or that of an attempt that was made of a call, with the id that the call's outcome shows, to a name of the link's socket
    pub sent : (k : ℕ) → k < p.links → AllByRecursion (IsSent p clients outcomes fixed gave orders last k) (orders k).accepted
