-- The errors that ids took in a run.
use Rattle.std.specs.Prelude.{ℕ, ◌==◌, if◌then◌else◌, List, [], ◌∷◌}
use mathlib.Core.Option.{Option, none, some}
use lib.ListN.{get_elem?}
use Rattle.seat_programs.specs.brpc_model.specs.Items.{Item}
use Rattle.seat_programs.specs.brpc_model.specs.Operations.{Turn}
use Rattle.corr_core.specs.IdSlotWord.{parts}
use Rattle.seat_programs.specs.Asides.{Step, Found, PostId, Taking}
use Rattle.seat_programs.specs.Programs.{Program, Aside}
use Rattle.seat_programs.specs.FoundAndChangedAside.{found_in}
use Rattle.seat_programs.specs.Cores.{Calls, Core}
use Rattle.seat_programs.specs.Ticks.{Moment, taken}
use Rattle.seat_programs.specs.ScriptSetupToEnding.{IsRunWithCalls}
use Rattle.seat_programs.specs.LoopRounds.{first_step}
use Rattle.sock_words.specs.PackedWords.{call_id}
use Rattle.outcome_stories.specs.Facts.{shown_in_run}

-- an error that an id took
pub record Post : Type 0 where
  pub id : ℕ
  pub error : ℕ

-- the error that the step posts: the exchange finds the word that it expects, which is that of the id's range
abbrev pub posts_by : (step : Step) → Found step → List Post
posts_by (PostId i from e) found = if found == from then (record { id = call_id i (parts from).first; error = e }) ∷ [] else []
posts_by other found = []

abbrev pub posted_with : Calls → Option Taking → Program → List Post
posted_with a t (Aside step next) = elim (found_in step a t) as (λ o. List Post) [ none ↦ [] | some found ↦ posts_by step found ]
posted_with a t other = []

abbrev pub posted_at : Core → Moment → List Post
posted_at c m = elim (get_elem? c.seats m.seat) as (λ o. List Post) [ none ↦ [] | some seat ↦ posted_with c.calls (taken m.answer) (first_step seat.program) ]

-- in the ticks of a whole run, one after another
abbrev pub posts_of_run : (script : List Item) (turns : List Turn) (end_ : Core) → IsRunWithCalls script turns end_ → List Post
posts_of_run script turns end_ is = shown_in_run script turns end_ is posted_at
