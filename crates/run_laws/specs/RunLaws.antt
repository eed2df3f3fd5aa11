-- What holds of each run of a script, whatever its schedule and its links: each tick is an event of the plain model, and behind a failure at most one put goes out.
use Rattle.std.specs.Prelude.{ℕ, Bool, List, ◌++◌, length, replicate}
use Rattle.brpc_model.specs.Items.{Item}
use Rattle.brpc_model.specs.Operations.{Turn}
use Rattle.sock_model.specs.declared.view.View.{View}
use Rattle.programs_allowed.specs.SeatOpenings.{opening_views, all_seats}
use Rattle.seat_programs.specs.Cores.{Core}
use Rattle.seat_programs.specs.Ticks.{quiet}
use Rattle.seat_programs.specs.ScriptSetupToEnding.{IsRunWithCalls, all_tasks, opened, ending, set_up, played}
use Rattle.seat_programs.specs.Tasks.{opens, plan_of}
use Rattle.programs_allowed.specs.program_steps.specs.SoundSeats.{views_along}
use Rattle.run_laws.specs.World.{IsNew}
use Rattle.run_laws.specs.Seen.{none_stopped, stopped_along, world_of}
use Rattle.run_laws.specs.Happening.{Happen}
use Rattle.run_laws.specs.LatePuts.{PutsInTime}

-- the views of all seats before the first tick
abbrev pub opened_views : List Item → List View
opened_views script = opening_views (plan_of script) (all_seats (all_tasks script) (length (opens script)))

-- behind the setup, before the ending, and where seat 0 has made the ending: the views of all seats, and the links that are stopped
module _ {script : List Item} {turns : List Turn} {end_ : Core} (r : IsRunWithCalls script turns end_) where
  abbrev pub views_set : List View
  views_set = views_along (plan_of script) (opened script) (opened_views script) (replicate r.setup (quiet 0))

  abbrev pub views_played : List View
  views_played = views_along (plan_of script) (set_up script r.setup) (views_along (plan_of script) (opened script) (opened_views script) (replicate r.setup (quiet 0))) (r.scheduled ++ r.later)

  abbrev pub views_closed : List View
  views_closed = views_along (plan_of script) (ending script (played script r.setup (r.scheduled ++ r.later)))
      (views_along (plan_of script) (set_up script r.setup) (views_along (plan_of script) (opened script) (opened_views script) (replicate r.setup (quiet 0))) (r.scheduled ++ r.later)) (replicate r.last (quiet 0))

  abbrev pub stopped_set : ℕ → Bool
  stopped_set = stopped_along (plan_of script) (opened script) (opened_views script) none_stopped (replicate r.setup (quiet 0))

  abbrev pub stopped_played : ℕ → Bool
  stopped_played = stopped_along (plan_of script) (set_up script r.setup) (views_along (plan_of script) (opened script) (opened_views script) (replicate r.setup (quiet 0)))
      (stopped_along (plan_of script) (opened script) (opened_views script) none_stopped (replicate r.setup (quiet 0))) (r.scheduled ++ r.later)

  abbrev pub stopped_closed : ℕ → Bool
  stopped_closed = stopped_along (plan_of script) (ending script (played script r.setup (r.scheduled ++ r.later)))
      (views_along (plan_of script) (set_up script r.setup) (views_along (plan_of script) (opened script) (opened_views script) (replicate r.setup (quiet 0))) (r.scheduled ++ r.later))
      (stopped_along (plan_of script) (set_up script r.setup) (views_along (plan_of script) (opened script) (opened_views script) (replicate r.setup (quiet 0)))
      (stopped_along (plan_of script) (opened script) (opened_views script) none_stopped (replicate r.setup (quiet 0))) (r.scheduled ++ r.later)) (replicate r.last (quiet 0))

pub record KeepsLaws {script : List Item} {turns : List Turn} {end_ : Core} (r : IsRunWithCalls script turns end_) : Type 0 where
  -- before the first tick nothing lives, and nothing was accepted, taken or stopped
  pub begins : IsNew (plan_of script) (world_of (plan_of script) (opened script) (opened_views script) none_stopped)
  -- the ticks of the setup, those of the schedule and the rounds behind it, those of the ending, and the rounds behind that
  pub set_up_ticks : Happen (plan_of script) (opened script) (opened_views script) none_stopped (replicate r.setup (quiet 0))
  pub played_ticks : Happen (plan_of script) (set_up script r.setup) (views_set r) (stopped_set r) (r.scheduled ++ r.later)
  pub ending_ticks : Happen (plan_of script) (ending script (played script r.setup (r.scheduled ++ r.later))) (views_played r) (stopped_played r) (replicate r.last (quiet 0))
  pub final_ticks : Happen (plan_of script) r.ended (views_closed r) (stopped_closed r) r.final
  -- before the ending each put comes directly behind a look that found the socket live, and behind a failure at most one goes out
  pub in_time : PutsInTime (plan_of script) (opened script) (replicate r.setup (quiet 0) ++ (r.scheduled ++ r.later))
