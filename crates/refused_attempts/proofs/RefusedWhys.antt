-- Why attempts were refused: each request was used, or the socket's life was failed.
use Rattle.std.proofs.Common.{ℕ, inl, inr, List, [], ◌∷◌, ◌++◌, replicate, sym, subst, arith}
use Rattle.std.specs.List.{AllByRecursion}
use Rattle.sock_model.specs.declared.view.View.{View}
use Rattle.seat_programs.specs.brpc_model.specs.Items.{Item}
use Rattle.seat_programs.specs.brpc_model.specs.Operations.{Turn}
use Rattle.seat_programs.specs.TableSteps.{OnSlot, OnChain, AddRef, LookWord, ClaimRequest}
use Rattle.seat_programs.specs.Cores.{Core}
use Rattle.seat_programs.specs.Tasks.{plan_of}
use Rattle.seat_programs.specs.Ticks.{quiet, run}
use Rattle.seat_programs.specs.ScriptSetupToEnding.{all_tasks, opened, set_up, is_ending, IsRunWithCalls}
use Rattle.seat_programs.specs.ExplainedCalls.{WasFull}
use Rattle.attempted_calls.specs.Below.programs_allowed.specs.program_steps.specs.SoundSeats.{Sound}
use Rattle.attempted_calls.specs.Below.programs_allowed.specs.program_walks.proofs.WholeScriptSound.{closing_of, set_up_answered, end_answered, set_up_sound, closing_sound, closed_sound, ended_sound, end_rests}
use Rattle.attempted_calls.specs.Below.outcome_stories.specs.OperationStories.{In}
use Rattle.attempted_calls.specs.Below.outcome_stories.proofs.Delivered.{requests_used}
use Rattle.attempted_calls.specs.Below.joint_runs.proofs.RunsOfBothTables.{AreMade, first_views}
use Rattle.attempted_calls.specs.Below.call_owing.specs.LivesOfLinks.{ClosesInRun}
use Rattle.attempted_calls.specs.accept_counts.specs.RefusedOrDropped.{Deed, DidStep, DidEarly, DidLate, FoundTaken}
use Rattle.attempted_calls.specs.sent_once.proofs.OtherTasksBesideCalls.{fixed_of_run, gave_of_run, orders_here}
use Rattle.attempted_calls.specs.accept_counts.proofs.EarlyClosedSockets.{start, go, fitting}
use Rattle.attempted_calls.specs.sent_once.proofs.SocketOperationsTold.{owed}
use Rattle.attempted_calls.specs.sent_once.proofs.WholeLinkOrders.{quiet_there}
use Rattle.refused_attempts.proofs.RefusedMeans.{IsSo, run_keeps, run_so}
use Rattle.refused_attempts.proofs.RefusedWhole.{end_views}
use Rattle.attempted_calls.specs.accept_counts.proofs.Grounds.{stages}

pub all_in : (P : Deed → Type 0) (ds : List Deed) (d : Deed) → AllByRecursion P ds → In d ds → P d
all_in P [] d all m = absurd m
all_in P (x ∷ ds) d all (inl e) = subst P (sym e) all.0
all_in P (x ∷ ds) d all (inr m) = all_in P ds d all.1 m

module _ (script : List Item) (made : AreMade script) (turns : List Turn) (core : Core) (is : IsRunWithCalls script turns core) (closes : ClosesInRun script turns core is) where
  open stages script turns core is use {set_views, rested, rested_views, closed_views}

  -- ## What was done before the ending

  pub early_so : (j : ℕ) (d : Deed) → DidEarly script turns core is j d → IsSo (plan_of script) rested rested_views d
  early_so j d (inl x) = run_keeps (plan_of script) (go script made turns core is) (is.scheduled ++ is.later) (set_up script is.setup) set_views
      (set_up_sound script made.are (first_views script) (start script made turns core is) (go script made turns core is) turns core is (fitting script made turns core is)) is.answered (fitting script made turns core is).of_played d
      (run_so (plan_of script) (go script made turns core is) (replicate is.setup (quiet 0)) (opened script) (first_views script) (start script made turns core is).sound
      (set_up_answered script made.are (first_views script) (start script made turns core is) (go script made turns core is) turns core is (fitting script made turns core is)) (fitting script made turns core is).of_setup j d x)
  early_so j d (inr x) = run_so (plan_of script) (go script made turns core is) (is.scheduled ++ is.later) (set_up script is.setup) set_views
      (set_up_sound script made.are (first_views script) (start script made turns core is) (go script made turns core is) turns core is (fitting script made turns core is)) is.answered (fitting script made turns core is).of_played j d x

  -- seat 0 begins the ending, and has made it
  begin_keeps : (d : Deed) → IsSo (plan_of script) rested rested_views d → IsSo (plan_of script) (closing_of script turns core is) rested_views d
  begin_keeps (DidStep (OnChain (ClaimRequest id r)) found) so = so
  begin_keeps (DidStep (OnSlot (AddRef id)) found) so = so
  begin_keeps (DidStep (OnSlot (LookWord id)) found) so = so
  begin_keeps _ so = tt

  end_keeps : (c : Core) (ws : List View) (d : Deed) → IsSo (plan_of script) c ws d → IsSo (plan_of script) (is_ending c) ws d
  end_keeps c ws (DidStep (OnChain (ClaimRequest id r)) found) so = so
  end_keeps c ws (DidStep (OnSlot (AddRef id)) found) so = so
  end_keeps c ws (DidStep (OnSlot (LookWord id)) found) so = so
  end_keeps c ws _ so = tt

  from_ended : (d : Deed) → IsSo (plan_of script) is.ended closed_views d → IsSo (plan_of script) core (end_views script made turns core is closes) d
  from_ended d so = subst (λ c. IsSo (plan_of script) c (end_views script made turns core is closes) d) (sym is.is_end) (run_keeps (plan_of script) (go script made turns core is) is.final is.ended closed_views
      (closed_sound script made.are (first_views script) (start script made turns core is) (go script made turns core is) turns core is (fitting script made turns core is)) is.answered_again (fitting script made turns core is).of_final d so)

  abbrev closed : Core
  closed = run (plan_of script) (closing_of script turns core is) (replicate is.last (quiet 0))

  from_closed : (d : Deed) → IsSo (plan_of script) closed closed_views d → IsSo (plan_of script) core (end_views script made turns core is closes) d
  from_closed d so = from_ended d (subst (λ c. IsSo (plan_of script) c closed_views d) (sym is.is_ended) (end_keeps closed closed_views d so))

  abbrev close_sound : Sound (plan_of script) (closing_of script turns core is) rested_views
  close_sound = closing_sound script made.are (first_views script) (start script made turns core is) (go script made turns core is) turns core is (fitting script made turns core is)

  -- ## In the end

  pub before_so : (j : ℕ) (d : Deed) → DidEarly script turns core is j d → IsSo (plan_of script) core (end_views script made turns core is closes) d
  before_so j d x = from_closed d (run_keeps (plan_of script) (go script made turns core is) (replicate is.last (quiet 0)) (closing_of script turns core is) rested_views close_sound
      (end_answered script made.are (first_views script) (start script made turns core is) (go script made turns core is) turns core is (fitting script made turns core is)) (fitting script made turns core is).of_closing d (begin_keeps d (early_so j d x)))

  pub late_so : (j : ℕ) (d : Deed) → DidLate script turns core is j d → IsSo (plan_of script) core (end_views script made turns core is closes) d
  late_so j d x = subst (λ c. IsSo (plan_of script) c (end_views script made turns core is closes) d) (sym is.is_end) (run_so (plan_of script) (go script made turns core is) is.final is.ended closed_views
      (closed_sound script made.are (first_views script) (start script made turns core is) (go script made turns core is) turns core is (fitting script made turns core is)) is.answered_again (fitting script made turns core is).of_final j d x)

  -- ## Full

  -- where each request was found taken, as many messages were accepted as there are requests
  pub full : (ds : List Deed) → FoundTaken (plan_of script).requests ds → AllByRecursion (λ (d : Deed). IsSo (plan_of script) core (end_views script made turns core is closes) d) ds
      → WasFull (plan_of script) (all_tasks script) core.outcomes (fixed_of_run script made turns core is closes) (gave_of_run script made turns core is closes) (orders_here script made turns core is closes)
  full ds taken so = let sound = ended_sound script made.are (first_views script) (start script made turns core is) (go script made turns core is) turns core is (fitting script made turns core is) in
      let rests = end_rests script made.are (first_views script) (start script made turns core is) (go script made turns core is) turns core is (fitting script made turns core is) (owed script made turns core is closes) in
      requests_used (plan_of script) core (end_views script made turns core is closes) sound.lawful (quiet_there (plan_of script) core (end_views script made turns core is closes) sound rests)
      (λ q low e. let t = taken q low in let s = (all_in (λ (d : Deed). IsSo (plan_of script) core (end_views script made turns core is closes) d) ds (DidStep (OnChain (ClaimRequest t.0 q)) t.1) so t.2 t.3).1 in omega (arith, s, e))
