-- Each run of a script keeps the laws.
use Rattle.std.proofs.Common.{◌≡◌, ℕ, zero, suc, inl, inr, ⊎_elim, Bool, List, [], ◌∷◌, ◌++◌, length, replicate, sym, ap, ◌∙◌, subst, arith}
use Rattle.std.specs.List.{AllByRecursion}
use mathlib.Core.Option.{some, some-ne-none}
use lib.ListN.{get_elem?}
use Rattle.atomic_table.proofs.Lists.{at_set}
use Rattle.chain_steps.proofs.TicketLists.{at_length, at_some}
use Rattle.sock_words.specs.declared.plain.Plan.{Plan}
use Rattle.brpc_model.specs.Items.{Item}
use Rattle.brpc_model.specs.Operations.{Turn}
use Rattle.sock_model.specs.declared.view.View.{View}
use Rattle.seat_programs.specs.Programs.{Program, Rest}
use Rattle.seat_programs.specs.ClientProgram.{ending_of}
use Rattle.seat_programs.specs.Cores.{Core, SeatState, resolved, waiting_at, next_step}
use Rattle.seat_programs.specs.Ticks.{Moment, quiet, AreAnswered, ticked, run}
use Rattle.seat_programs.specs.Tasks.{plan_of, id_plan_of, opens, calls}
use Rattle.seat_programs.specs.Explained.{AreTasks}
use Rattle.seat_programs.specs.ScriptSetupToEnding.{IsRunWithCalls, all_tasks, opened, set_up, played, is_ending, sizes_of, programs, readers_from, all_programs}
use Rattle.programs_allowed.specs.program_steps.specs.SoundSeats.{Sound, AreFitting}
use Rattle.programs_allowed.specs.sock_runs.proofs.LinkTicks.{RetriesGo}
use Rattle.programs_allowed.specs.sock_runs.proofs.SoundAlongRuns.{seat_rests}
use Rattle.programs_allowed.specs.program_walks.proofs.WholeScriptSound.{Begins, AreFittingIn, closing_of, set_up_answered, end_answered, rested_ahead, rested_idle, closing_sound, closed_sound}
use Rattle.programs_allowed.specs.SeatOpenings.{all_seats}
use Rattle.run_laws.specs.Seen.{none_stopped}
use Rattle.run_laws.specs.RunLaws.{KeepsLaws, opened_views, views_set, views_played, views_closed, stopped_set, stopped_played, stopped_closed}
use Rattle.run_laws.proofs.Modes.{Mode, Unknown, Broken, Guarded, come_guarded, ending_guarded}
use Rattle.run_laws.proofs.KeptBySeats.{AreGiven, FitsRight, Fits, IsBroken, Kept, mode_at, mode_else}
use Rattle.run_laws.proofs.TicksKeepLaws.{Runs, each_run, happen}
use Rattle.run_laws.proofs.InTime.{in_time}
use Rattle.run_laws.proofs.Begins.{all_guarded, new_world, begins_kept, begins_full, none_accepted, none_puts}

given_of : (p : Plan) (ms : List Moment) (c : Core) → AreAnswered p c ms → AreFitting p c ms → AreGiven p c ms
given_of p [] c answered fitting = tt
given_of p (m ∷ ms) c answered fitting = ((answered.0, fitting.0), given_of p ms (ticked p c m) answered.1 fitting.1)

given_on : (p : Plan) (c : Core) (xs ys : List Moment) → AreGiven p c xs → AreGiven p (run p c xs) ys → AreGiven p c (xs ++ ys)
given_on p c [] ys h k = k
given_on p c (m ∷ xs) ys h k = (h.0, given_on p (ticked p c m) xs ys h.1 k)

-- seat 0, which is at rest, begins the ending
module _ (p : Plan) (c : Core) (views : List View) (stopped : ℕ → Bool) (os : List ℕ) (kept : Kept p c views stopped) (rests : (seat : SeatState) → get_elem? c.seats 0 ≡ some seat → seat.program ≡ Rest) where
  abbrev closing : Core
  closing = Rattle.seat_programs.specs.Cores.with_seat 0 (ending_of os) [] c.words c.homes c

  closing_fits : (i : ℕ) (v : View) → get_elem? views i ≡ some v → Fits p v stopped (mode_at 0 Unknown kept.modes i)
  closing_fits zero v at r one = tt
  closing_fits (suc i) v at r one = subst (λ y. FitsRight p v stopped y r) (sym (mode_else 0 (suc i) Unknown kept.modes (λ e. omega (arith, e)))) (kept.fits (suc i) v at r one)

  not_first : (k : ℕ) (b : IsBroken views kept.modes k) → b.seat ≡ 0 → ⊥
  not_first k b e = let x = at_some c.seats b.seat (let low = at_length views b.seat b.view b.there in omega (arith, kept.sound.each)) in
      let rest : x.0.program ≡ Rest = rests x.0 (subst (λ n. get_elem? c.seats n ≡ some x.0) e x.1) in
      subst (λ (y : Program). Guarded (Broken b.slot) y) rest (subst (λ (y : Mode). Guarded y x.0.program) b.mode (kept.guarded b.seat x.0 x.1))

  still_broken : (k : ℕ) (b : IsBroken views kept.modes k) → IsBroken views (mode_at 0 Unknown kept.modes) k
  still_broken k b = record { seat = b.seat; view = b.view; right = b.right; slot = b.slot; there = b.there; mode = mode_else 0 b.seat Unknown kept.modes (not_first k b) ∙ b.mode; one = b.one; link = b.link }

  pub closing_kept : Sound p (Rattle.seat_programs.specs.Cores.with_seat 0 (ending_of os) [] c.words c.homes c) views → Kept p (Rattle.seat_programs.specs.Cores.with_seat 0 (ending_of os) [] c.words c.homes c) views stopped
  closing_kept sound = record {
    sound = sound;
    retries_go = kept.retries_go;
    modes = mode_at 0 Unknown kept.modes;
    guarded = λ i seat e. ⊎_elim
        (λ r. subst (λ y. Guarded (mode_at 0 Unknown kept.modes y) seat.program) (sym r.0) (subst (λ (y : SeatState). Guarded Unknown y.program) r.1 (come_guarded Unknown (waiting_at c.calls.waiting 0) (ending_of os) (ending_guarded os))))
        (λ r. subst (λ (y : Mode). Guarded y seat.program) (sym (mode_else 0 i Unknown kept.modes r.0)) (kept.guarded i seat r.1))
        (at_set c.seats 0 i (record { program = next_step (resolved (waiting_at c.calls.waiting 0) (ending_of os)); hand = [] }) seat e);
    fits = λ i v at r one. closing_fits i v at r one;
    stops = λ k e. ⊎_elim (λ f. inl f) (λ b. inr (still_broken k b)) (kept.stops k e);
  }

-- behind the ending the run is ending, which changes nothing else
ending_runs : (p : Plan) (c : Core) (views : List View) (stopped : ℕ → Bool) → Sound p (is_ending c) views → Runs p c views stopped → Runs p (is_ending c) views stopped
ending_runs p c views stopped sound runs = let kept = runs.kept in record {
  kept = record { sound = sound; retries_go = kept.retries_go; modes = kept.modes; guarded = kept.guarded; fits = kept.fits; stops = kept.stops };
  full = runs.full;
  some_bytes = runs.some_bytes;
}

-- ## The run of a script

module _ (script : List Item) (are : AreTasks (plan_of script) (all_tasks script)) (begins : Begins script (opened_views script)) (go : RetriesGo (plan_of script)) (turns : List Turn) (end_ : Core) (is : IsRunWithCalls script turns end_)
    (fitting : AreFittingIn script turns end_ is) where
  abbrev p : Plan
  p = plan_of script

  abbrev vs : List View
  vs = opened_views script

  abbrev all_are : List Program
  all_are = all_programs (programs (sizes_of (plan_of script) (id_plan_of script)) (all_tasks script)) (readers_from (calls script) 0 (opens script))

  guarded : AllByRecursion (Guarded Unknown) (all_programs (programs (sizes_of (plan_of script) (id_plan_of script)) (all_tasks script)) (readers_from (calls script) 0 (opens script)))
  guarded = all_guarded (sizes_of (plan_of script) (id_plan_of script)) (all_tasks script) (calls script) (opens script)

  first : Runs p (opened script) vs none_stopped
  first = record {
    kept = begins_kept p (id_plan_of script) all_are (all_seats (all_tasks script) (length (opens script))) guarded go begins.sound;
    full = begins_full p (id_plan_of script) all_are (all_seats (all_tasks script) (length (opens script)));
    some_bytes = λ e has. let z = sym (ap (λ es. get_elem? es has.0) (none_accepted p (id_plan_of script) all_are (all_seats (all_tasks script) (length (opens script))))) ∙ has.1 in absurd (some-ne-none e (sym z));
  }

  set_up_given : AreGiven p (opened script) (replicate is.setup (quiet 0))
  set_up_given = given_of p (replicate is.setup (quiet 0)) (opened script) (set_up_answered script are vs begins go turns end_ is fitting) fitting.of_setup

  behind_setup : Runs p (set_up script is.setup) (views_set is) (stopped_set is)
  behind_setup = (each_run p (replicate is.setup (quiet 0)) (opened script) vs none_stopped first set_up_given).1

  played_given : AreGiven p (set_up script is.setup) (is.scheduled ++ is.later)
  played_given = given_of p (is.scheduled ++ is.later) (set_up script is.setup) is.answered fitting.of_played

  behind_played : Runs p (played script is.setup (is.scheduled ++ is.later)) (views_played is) (stopped_played is)
  behind_played = (each_run p (is.scheduled ++ is.later) (set_up script is.setup) (views_set is) (stopped_set is) behind_setup played_given).1

  -- what is kept where seat 0 begins the ending
  at_closing : Runs p (closing_of script turns end_ is) (views_played is) (stopped_played is)
  at_closing = let c : Core = played script is.setup (is.scheduled ++ is.later) in record {
    kept = closing_kept p c (views_played is) (stopped_played is) (opens script) behind_played.kept
        (λ seat at. seat_rests c (rested_ahead script are vs begins go turns end_ is fitting) 0 (rested_idle script are vs begins go turns end_ is fitting) seat at) (closing_sound script are vs begins go turns end_ is fitting);
    full = behind_played.full;
    some_bytes = behind_played.some_bytes;
  }

  closing_given : AreGiven p (closing_of script turns end_ is) (replicate is.last (quiet 0))
  closing_given = given_of p (replicate is.last (quiet 0)) (closing_of script turns end_ is) (end_answered script are vs begins go turns end_ is fitting) fitting.of_closing

  -- and where it has made it
  at_ended : Runs p is.ended (views_closed is) (stopped_closed is)
  at_ended = let c : Core = run p (closing_of script turns end_ is) (replicate is.last (quiet 0)) in
      let r = (each_run p (replicate is.last (quiet 0)) (closing_of script turns end_ is) (views_played is) (stopped_played is) at_closing closing_given).1 in
      subst (λ d. Runs (plan_of script) d (views_closed is) (stopped_closed is)) (sym is.is_ended)
      (ending_runs p c (views_closed is) (stopped_closed is) (subst (λ d. Sound (plan_of script) d (views_closed is)) is.is_ended (closed_sound script are vs begins go turns end_ is fitting)) r)

  -- the run keeps the laws
  pub keeps_laws : KeepsLaws is
  keeps_laws = record {
    begins = new_world p (id_plan_of script) all_are (all_seats (all_tasks script) (length (opens script)));
    set_up_ticks = happen p (replicate is.setup (quiet 0)) (opened script) vs none_stopped first set_up_given;
    played_ticks = happen p (is.scheduled ++ is.later) (set_up script is.setup) (views_set is) (stopped_set is) behind_setup played_given;
    ending_ticks = happen p (replicate is.last (quiet 0)) (closing_of script turns end_ is) (views_played is) (stopped_played is) at_closing closing_given;
    final_ticks = happen p is.final is.ended (views_closed is) (stopped_closed is) at_ended (given_of p is.final is.ended is.answered_again fitting.of_final);
    in_time = in_time p (opened script) vs none_stopped (replicate is.setup (quiet 0) ++ (is.scheduled ++ is.later)) first.kept (given_on p (opened script) (replicate is.setup (quiet 0)) (is.scheduled ++ is.later) set_up_given played_given)
        (none_puts p (id_plan_of script) all_are (all_seats (all_tasks script) (length (opens script))) guarded);
  }
