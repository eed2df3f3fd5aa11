-- What one seat does to ids in ticks: the errors that it posts, and those on which it decides.
use Rattle.std.specs.Prelude.{ℕ, ◌==◌, ◌&&◌, ◌||◌, Bool, true, false, if◌then◌else◌, List, [], ◌∷◌}
use mathlib.Core.Option.{none, some}
use lib.ListN.{get_elem?}
use Rattle.sock_message.specs.Asked.{Asked}
use Rattle.sock_words.specs.declared.plain.Plan.{Plan}
use Rattle.seat_programs.specs.TableSteps.{OnName, LoadOpen}
use Rattle.seat_programs.specs.Asides.{PostId}
use Rattle.seat_programs.specs.LoopHeads.{Decides}
use Rattle.seat_programs.specs.Programs.{Program, Do, Aside, Round}
use Rattle.seat_programs.specs.Cores.{Core}
use Rattle.seat_programs.specs.Ticks.{Moment, ticked}
use Rattle.call_stories.specs.PostsOfRun.{Post, posted_at}
use Rattle.seat_programs.specs.LoopRounds.{first_step}
use Rattle.outcome_stories.specs.Facts.{shown_in}

-- the errors that ids take from this seat
abbrev pub posted_by : ℕ → Core → Moment → List Post
posted_by j c m = if m.seat == j then posted_at c m else []

-- an error on which a seat decides that has the call with this id
pub record Decision : Type 0 where
  pub id : ℕ
  pub asked : Asked
  pub error : ℕ

abbrev pub decision_in : Program → List Decision
decision_in (Round (Decides id asked word e) next) = (record { id = id; asked = asked; error = e }) ∷ []
decision_in other = []

abbrev pub decided_at : Core → Moment → List Decision
decided_at c m = elim (get_elem? c.seats m.seat) as (λ o. List Decision) [ none ↦ [] | some seat ↦ decision_in seat.program ]

abbrev pub decided_by : ℕ → Core → Moment → List Decision
decided_by j c m = if m.seat == j then decided_at c m else []

-- ## Behind the end of a reading

-- a step of a reader that it makes only there: on its socket, but for the word of its `open`, or to post an error
abbrev pub is_late_step : Program → Bool
is_late_step (Do (OnName (LoadOpen o)) next) = false
is_late_step (Do call next) = true
is_late_step (Aside (PostId i from e) next) = true
is_late_step other = false

abbrev pub late_at : ℕ → Core → Moment → Bool
late_at j c m = elim (get_elem? c.seats m.seat) as (λ o. Bool) [ none ↦ false | some seat ↦ (m.seat == j) && is_late_step (first_step seat.program) ]

-- in one of these ticks the reader's seat makes such a step
abbrev pub late_in : ℕ → Plan → Core → List Moment → Bool
late_in j p c [] = false
late_in j p c (m ∷ ms) = late_at j c m || late_in j p (ticked p c m) ms

-- the errors that ids take from its first such step on
abbrev pub posted_behind : ℕ → Plan → Core → List Moment → List Post
posted_behind j p c [] = []
posted_behind j p c (m ∷ ms) = if late_at j c m then shown_in posted_at p c (m ∷ ms) else posted_behind j p (ticked p c m) ms
