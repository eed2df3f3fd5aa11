-- How the puts of a link are answered along a run: as the shape says that its `open` asks for.
use Rattle.std.specs.Prelude.{ℕ, ◌≡◌, ◌++◌, Bool, false, if◌then◌else◌, List, [], ◌∷◌, fold}
use mathlib.Core.Option as core
use lib.ListN.{get_elem?}
use Rattle.sock_words.specs.declared.plain.Plan.{Plan}
use Rattle.sock_words.specs.declared.shape.Shape.{Shape}
use Rattle.brpc_model.specs.Items.{Item}
use Rattle.brpc_model.specs.Operations.{Turn}
use Rattle.sock_io.specs.declared.link.Put.TheVariants.{Failed}
use Rattle.sock_io.specs.PutAnswers.{Pacing, paced_on, next_answer}
use Rattle.seat_programs.specs.Programs.{Program, PutBytes}
use Rattle.seat_programs.specs.Cores.{Core, SeatState}
use Rattle.seat_programs.specs.Ticks.{Answer, OfPut, Moment, ticked}
use Rattle.seat_programs.specs.LoopRounds.{first_step}
use Rattle.seat_programs.specs.Tasks.{plan_of}
use Rattle.seat_programs.specs.ScriptSetupToEnding.{IsRunWithCalls, set_up}
use Rattle.run_theorems.specs.OfferedAtTakes.{HasTaken}
use Rattle.run_theorems.specs.Heard.{heard_at, heard_in}

-- how the puts of a link of this shape go, which answered so far what stands here
abbrev pub paced_by : Answer → Pacing → Pacing
paced_by (OfPut put) pacing = paced_on put pacing
paced_by other pacing = pacing

abbrev pub paced : Shape → List Answer → Pacing
paced shape answers = fold (λ (pacing : Pacing) (answer : Answer). paced_by answer pacing) (record { shape = shape; puts = 0; paused = false }) answers

module _ (p : Plan) (k : ℕ) (shape : Shape) where
  -- A put into link k, which answered so far what stands here: it is answered as the shape says for its number, for the bytes that the link took and for
  -- those that are handed in, and fails where the link is finished.
  abbrev pub ShapedAt : List Answer → Core → Answer → Program → Type 0
  ShapedAt so_far c answer (PutBytes j asked bytes next) = j ≡ k → (took : List ℕ) × (finished : Bool) × HasTaken p k c took finished × (answer ≡ OfPut (if finished then Failed else next_answer (paced shape so_far) took bytes))
  ShapedAt so_far c answer other = Unit {0}

  -- at each of these ticks
  abbrev pub AreShaped : List Answer → Core → List Moment → Type 0
  AreShaped so_far c [] = Unit {0}
  AreShaped so_far c (m ∷ ms) = ((seat : SeatState) → get_elem? c.seats m.seat ≡ core.some seat → ShapedAt so_far c m.answer (first_step seat.program)) × AreShaped (so_far ++ heard_at c m k) (ticked p c m) ms

-- The puts of link k were answered by its shape, in the whole run: behind the ending its puts are counted on. The setup and the ending put nothing.
pub record ShapedInRun (script : List Item) (turns : List Turn) (core : Core) (is : IsRunWithCalls script turns core) (k : ℕ) (shape : Shape) : Type 0 where
  pub played : AreShaped (plan_of script) k shape [] (set_up script is.setup) (is.scheduled ++ is.later)
  pub final : AreShaped (plan_of script) k shape (heard_in (plan_of script) (set_up script is.setup) (is.scheduled ++ is.later) k) is.ended is.final
