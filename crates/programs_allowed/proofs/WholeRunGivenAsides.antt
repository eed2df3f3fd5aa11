-- From the first tick of a run to its last all seats are sound, where what steps aside of the sockets find is as it should be.
use Rattle.std.proofs.Common.{ℕ, ◌<◌, ◌≤◌, List, [], length}
use Rattle.std.specs.List.{AllByRecursion}
use Rattle.sock_words.specs.declared.plain.Plan.{Plan}
use Rattle.corr_core.specs.declared.marks.Plan.{Plan as IdPlan}
use Rattle.sock_model.specs.declared.view.View.{View}
use Rattle.sock_model.specs.LawfulSockets.{PlanFits}
use Rattle.seat_programs.specs.declared.task.Task.{Task}
use Rattle.seat_programs.specs.ClientProgram.{ending_of}
use Rattle.seat_programs.specs.Cores.{Core, with_seat}
use Rattle.seat_programs.specs.Ticks.{Moment, run, AreAnswered}
use Rattle.seat_programs.specs.ScheduledRuns.{IsAtRest}
use Rattle.seat_programs.specs.ScriptSetupToEnding.{sizes_of, programs, readers_from, all_programs, is_ending}
use Rattle.seat_programs.specs.Explained.{AreTasks}
use Rattle.program_walks.specs.program_steps.specs.SoundSeats.{IsWithinLimits, Sound, IsAhead, AreFitting, views_along}
use Rattle.program_walks.specs.sock_runs.proofs.SoundAlongRuns.{run_sound, run_ahead, seat_ahead, beginning_ahead}
use Rattle.programs_allowed.specs.SeatOpenings.{opening_views, all_seats}
use Rattle.programs_allowed.proofs.RetryAllowed.{retries_go}
use Rattle.programs_allowed.proofs.AllowedRunOpening.{begun_core, opens_sound, ending_sound, told_sound}

module _ (p : Plan) (q : IdPlan) (clients : List (List Task)) (calls opens : List ℕ) where
  -- the core behind these ticks, and its views
  abbrev pub played : List Moment → Core
  played moments = run p (begun_core p q clients calls opens) moments

  abbrev pub played_views : List Moment → List View
  played_views moments = views_along p (begun_core p q clients calls opens) (opening_views p (all_seats clients (length opens))) moments

  -- where seat 0 begins the ending, and behind the ticks that it takes
  abbrev pub begins_to_end : List Moment → Core
  begins_to_end moments = with_seat 0 (ending_of opens) [] (played moments).words (played moments).homes (played moments)

  abbrev pub ended : List Moment → List Moment → Core
  ended moments last = is_ending (run p (begins_to_end moments) last)

  abbrev pub ended_views : List Moment → List Moment → List View
  ended_views moments last = views_along p (begins_to_end moments) (played_views moments) last

  pub played_ahead : (moments : List Moment) → IsAhead (played moments)
  played_ahead moments = run_ahead p (begun_core p q clients calls opens) moments (beginning_ahead p q (all_programs (programs (sizes_of p q) clients) (readers_from calls 0 opens)))

  pub ended_ahead : (moments last : List Moment) → IsAhead (ended moments last)
  ended_ahead moments last = run_ahead p (begins_to_end moments) last (seat_ahead (played moments) 0 (ending_of opens) [] (played moments).words (played moments).homes (played_ahead moments))

  pub final_ahead : (moments last final : List Moment) → IsAhead (run p (ended moments last) final)
  final_ahead moments last final = run_ahead p (ended moments last) final (ended_ahead moments last)

  -- what is asked of a run behind these ticks, which are the setup and all up to the ending, of the ending, and of what follows it
  pub record IsAnsweredRun (moments last final : List Moment) : Type 0 where
    pub answered : AreAnswered p (begun_core p q clients calls opens) moments
    pub fitting : AreFitting p (begun_core p q clients calls opens) moments
    pub idle : IsAtRest (played moments) 0
    pub last_answered : AreAnswered p (begins_to_end moments) last
    pub last_fitting : AreFitting p (begins_to_end moments) last
    pub final_answered : AreAnswered p (ended moments last) final
    pub final_fitting : AreFitting p (ended moments last) final

  module _ (are : AreTasks p clients) (limits : IsWithinLimits p) (fits : PlanFits p) (few : length (all_seats clients (length opens)) ≤ 512) (inside : AllByRecursion (λ o. o < p.operations) opens) where
    pub played_sound : (moments : List Moment) → AreAnswered p (begun_core p q clients calls opens) moments → AreFitting p (begun_core p q clients calls opens) moments → Sound p (played moments) (played_views moments)
    played_sound moments answered fitting = run_sound p (retries_go p limits.requests) (begun_core p q clients calls opens) (opening_views p (all_seats clients (length opens))) moments (opens_sound p q clients calls opens are limits fits few inside) answered fitting

    pub ended_sound : (moments last final : List Moment) → IsAnsweredRun moments last final → Sound p (ended moments last) (ended_views moments last)
    ended_sound moments last final r = told_sound p (run p (begins_to_end moments) last) (ended_views moments last) (run_sound p (retries_go p limits.requests) (begins_to_end moments) (played_views moments) last
        (ending_sound p (played moments) (played_views moments) opens inside (played_ahead moments) r.idle (played_sound moments r.answered r.fitting)) r.last_answered r.last_fitting)

    pub final_sound : (moments last final : List Moment) → IsAnsweredRun moments last final → Sound p (run p (ended moments last) final) (views_along p (ended moments last) (ended_views moments last) final)
    final_sound moments last final r = run_sound p (retries_go p limits.requests) (ended moments last) (ended_views moments last) final (ended_sound moments last final r) r.final_answered r.final_fitting
