-- What holds of ticks one after another: each is an event of the plain model, and before and behind each the laws of lives hold.
use Rattle.std.specs.Prelude.{ℕ, Bool, List, take}
use Rattle.sock_words.specs.declared.plain.Plan.{Plan}
use Rattle.sock_model.specs.PlainReferences.{PlainLaw, plain}
use Rattle.sock_model.specs.declared.view.View.{View}
use Rattle.seat_programs.specs.Cores.{Core}
use Rattle.seat_programs.specs.Ticks.{Moment}
use Rattle.programs_allowed.specs.program_steps.specs.SoundSeats.{views_along}
use Rattle.run_laws.specs.Seen.{AreEvents}

-- these ticks, one after another: each is its event of the plain model or none, and before and behind each the laws of lives hold
pub record Happen (p : Plan) (c : Core) (views : List View) (stopped : ℕ → Bool) (ticks : List Moment) : Type 0 where
  pub events : AreEvents p c views stopped ticks
  pub lives : (n : ℕ) → PlainLaw p.slots (plain (views_along p c views (take n ticks)))
