-- In a whole run a link with the server gave the replies to all that it took, where it became a socket's before the run was ending, and its reading ended neither by a frame fault, nor by a failure, nor by its limit.
use Rattle.std.proofs.Common.{◌≡◌, ◌⊎◌, ◌≢◌, ℕ, zero, suc, ◌+◌, ◌<◌, Bool, false, List, [], ◌∷◌, ◌++◌, length, flat_map, replicate, get_or, append-nil, inl, inr, ⊎_elim, refl, sym, ap, ◌∙◌, subst, arith}
use Rattle.std.proofs.lemmas.Bool.{true≢false}
use Rattle.std.specs.Prelude.{slice_get, slice_index_or, Some}
use mathlib.Core.Option.{Option, none, some}
use lib.ListN.{get_elem?}
use Rattle.atomic_table.proofs.Lists.{set_else}
use Rattle.chain_steps.proofs.TicketLists.{at_some}
use Rattle.sock_words.specs.declared.plain.Plan.{Plan}
use Rattle.sock_model.specs.declared.home.Home.{Home}
use Rattle.sock_model.specs.declared.home.Home.TheVariants.{Link}
use Rattle.sock_model.specs.declared.view.View.{View}
use Rattle.sock_model.specs.SocketTableLayout.{open_index}
use Rattle.brpc_model.specs.Items.{Item, Shape}
use Rattle.brpc_model.specs.Operations.{Turn, link_shapes}
use Rattle.brpc_model.specs.LinkFailureCauses.{HasFault}
use Rattle.seat_programs.specs.Asides.{AtEnd, Broken}
use Rattle.seat_programs.specs.Programs.{Rest}
use Rattle.seat_programs.specs.ReaderProgram.{LIMIT, reader}
use Rattle.seat_programs.specs.Cores.{Core, SeatState, lies_at, link_place}
use Rattle.seat_programs.specs.Tasks.{opens, calls, plan_of}
use Rattle.seat_programs.specs.Ticks.{Moment, ticked, run}
use Rattle.seat_programs.specs.ScriptSetupToEnding.{opened, ending, is_ending, set_up, played, taken_by, took_at_home, IsRunWithCalls}
use Rattle.calm_runs.specs.send_causes.specs.Below.programs_allowed.specs.program_steps.specs.SoundSeats.{AllRest, views_along}
use Rattle.calm_runs.specs.send_causes.specs.Below.programs_allowed.specs.sock_runs.proofs.FailedLivesEnded.{links_home}
use Rattle.calm_runs.specs.send_causes.specs.Below.programs_allowed.specs.sock_runs.proofs.Quiets.{run_seats}
use Rattle.calm_runs.specs.send_causes.specs.Below.programs_allowed.specs.program_walks.proofs.WholeScriptSound.{IsListed, closing_of, views_played, views_closed, views_ended, set_up_answered, end_answered, set_up_sound, closing_sound, closed_sound, ended_sound, recorded_opened, recorded_set_up, recorded_closing, recorded_closed}
use Rattle.calm_runs.specs.send_causes.specs.Below.programs_allowed.specs.sock_runs.proofs.HandTicks.{AtHome}
use Rattle.calm_runs.specs.send_causes.specs.Below.outcome_stories.specs.Facts.{late_links_of_run}
use Rattle.calm_runs.specs.send_causes.specs.Below.outcome_stories.specs.OperationStories.{In}
use Rattle.calm_runs.specs.send_causes.specs.Below.outcome_stories.proofs.Ordered.{get_range}
use Rattle.calm_runs.specs.send_causes.specs.Below.outcome_causes.proofs.PlainOutcomeCauses.{in_left, in_right, in_both}
use Rattle.calm_runs.specs.send_causes.specs.Below.joint_runs.proofs.RunsOfBothTables.{AreMade, first_views}
use Rattle.calm_runs.specs.send_causes.specs.Below.call_owing.specs.LivesOfLinks.{ClosesInRun}
use Rattle.calm_runs.specs.send_causes.specs.Below.call_owing.proofs.EndsStill.{run_ending}
use Rattle.calm_runs.specs.send_causes.specs.Below.owed_calls.proofs.OwedCallsAreEnded.{run_all_rest}
use Rattle.calm_runs.specs.send_causes.specs.Below.run_theorems.specs.Heard.{as_taken, taken_in, heard_takes}
use Rattle.calm_runs.specs.send_causes.specs.Below.run_theorems.proofs.HeardRuns.{taken_append}
use Rattle.calm_runs.specs.send_causes.specs.Below.run_theorems.proofs.RunLengths.{tick_long}
use Rattle.calm_runs.specs.send_causes.specs.Below.call_stories.specs.LinkReadingLists.{gave_in}
use Rattle.calm_runs.specs.send_causes.specs.Below.accept_counts.proofs.EarlyClosedSockets.{Any, ends_anyhow, start, go, fitting, known, begins_at}
use Rattle.calm_runs.specs.send_causes.specs.Below.ended_calls.proofs.EndedWhole.{opened_keeps, closing_keeps, closed_keeps}
use Rattle.calm_runs.specs.send_causes.specs.Below.accept_counts.proofs.ReaderRuns.{founds, keeps_along}
use Rattle.calm_runs.specs.send_causes.specs.Below.call_stories.proofs.RunTicks.{in_setup, in_clients, in_closing}
use Rattle.served_runs.specs.OfferedReplies.{TookSoFar, offered_by, OffersInRun}
use Rattle.served_runs.proofs.GivenByReadingEnd.{IsOverSo, Holds}
use Rattle.served_runs.proofs.LastTakeGaveAll.{Behind, lasts_along}
use Rattle.served_runs.proofs.NoPutsWhileEnding.{AreLate, late_first, late_on, late_put}
use Rattle.served_runs.proofs.RepliesGivenInPart.{IsPart, part_along}
use Rattle.served_runs.proofs.LinkPlacesAtTicks.{lies_before}
use Rattle.served_runs.proofs.ReadingsOver.{Goes, IsOver}
use Rattle.served_runs.proofs.RunsKeepReaderPlace.{Kept, quiet_offered, quiet_takes, holds_along}
use Rattle.served_runs.proofs.TicksKeepReaderPlace.{Stands}
use Rattle.corr_core.proofs.NoteSums.{at_length}
use Rattle.calm_runs.specs.send_causes.specs.Below.call_causes.proofs.HandledWhole.{empty_at}
use Rattle.sock_words.specs.PackedWords.{NO_SOCKET}

pub gave_long : (p : Plan) (ms : List Moment) (c : Core) → length (run p c ms).calls.gave ≡ length c.calls.gave
gave_long p [] c = refl
gave_long p (m ∷ ms) c = gave_long p ms (ticked p c m) ∙ (tick_long p m c).gave

pub empty_long : (n : ℕ) → length (replicate n (let e : List ℕ = [] in e)) ≡ n
empty_long zero = refl
empty_long (suc n) = ap suc (empty_long n)

-- what a link at home took
took_there : (p : Plan) (homes : List (Option Home)) (k : ℕ) (took : List ℕ) (next : ℕ) (done : Bool) → get_elem? homes (link_place p k) ≡ some (some (Link k took next done)) → k < p.links → get_or (took_at_home p homes) k [] ≡ took
took_there p homes k took next done at l = let f : ℕ → List ℕ = λ j. flat_map taken_by (lies_at homes (link_place p j)) in get_range f [] 0 p.links k l ∙ (ap f (omega arith)
    ∙ (ap (λ o. flat_map taken_by (elim o as (λ o. List Home) [ none ↦ [] | some x ↦ elim x as (λ o. List Home) [ none ↦ [] | some y ↦ y ∷ [] ] ])) at ∙ append-nil took))

module _ (script : List Item) (made : AreMade script) (turns : List Turn) (core : Core) (is : IsRunWithCalls script turns core) (offers : OffersInRun script turns core is)
    (k o : ℕ) (at : get_elem? (opens script) k ≡ some o) (shape : Shape) (shape_is : slice_get (link_shapes script) k ≡ Some shape) where
  abbrev Fails : Type 0
  Fails = In Broken (heard_takes is k)

  abbrev H : Core → Type 0
  H c = Holds script k o shape (In Broken (heard_takes is k)) c

  abbrev in_os : (n l : ℕ) → get_elem? (opens script) n ≡ some l → l < (plan_of script).operations
  in_os = (let x = known script made turns core is in x.in_script)

  pub link_inside : k < (plan_of script).links
  link_inside = let i = at_length (opens script) k o at in let many = (let x = known script made turns core is in x.as_many) in omega (arith, i, many)

  -- ## How it begins

  opened_holds : H (opened script)
  opened_holds = record { last = false; reader = λ seat there. inl (begins_at script made turns core is k o at seat there, empty_at (plan_of script).links k, refl); over = λ e. absurd (true≢false (sym e)) }

  long_opened : k < length (opened script).calls.gave
  long_opened = let e = empty_long (plan_of script).links in let l = link_inside in omega (arith, e, l)

  long_set_up : k < length (set_up script is.setup).calls.gave
  long_set_up = let e = gave_long (plan_of script) (in_setup is) (opened script) in let l = long_opened in omega (arith, e, l)

  long_played : k < length (played script is.setup (in_clients is)).calls.gave
  long_played = let e = gave_long (plan_of script) (in_clients is) (set_up script is.setup) in let l = long_set_up in omega (arith, e, l)

  long_ended : k < length is.ended.calls.gave
  long_ended = let e = gave_long (plan_of script) (in_closing is) (closing_of script turns core is) in let l = long_played in let same = ap (λ (c : Core). length c.calls.gave) is.is_ended in omega (arith, e, l, same)

  -- ## Until the ending

  abbrev IsEarly : Core → List View → List Moment → Type 0
  IsEarly c vs ms = c.calls.ending ≡ false

  set_up_holds : H (set_up script is.setup)
  set_up_holds = holds_along script in_os (IsListed script) (go script made turns core is) k o (in_os k o at) shape shape_is Fails IsEarly
      (λ c vs m ms sound early ending put. true≢false (sym ending ∙ early)) (λ c vs m ms sound answered fits early. run_ending (plan_of script) c (m ∷ []) ∙ early)
      (in_setup is) (opened script) (first_views script) (λ n. []) (let s = start script made turns core is in s.sound)
      (set_up_answered script made.are (first_views script) (start script made turns core is) (go script made turns core is) turns core is (fitting script made turns core is)) (let f = fitting script made turns core is in f.of_setup)
      (recorded_opened script made.are (first_views script) (start script made turns core is) (go script made turns core is) turns core is (fitting script made turns core is)) (opened_keeps script made turns core is)
      (quiet_offered script is.setup (opened script)) long_opened (λ there. absurd (quiet_takes (plan_of script) k is.setup (opened script) Broken there)) refl opened_holds

  set_up_early : (set_up script is.setup).calls.ending ≡ false
  set_up_early = run_ending (plan_of script) (opened script) (in_setup is)

  played_early : (played script is.setup (in_clients is)).calls.ending ≡ false
  played_early = run_ending (plan_of script) (set_up script is.setup) (in_clients is) ∙ set_up_early

  set_up_keeps : Kept script in_os (set_up script is.setup) (views_along (plan_of script) (opened script) (first_views script) (in_setup is)) (λ n. [] ++ founds (plan_of script) (calls script) (opens script) in_os Any (Unit {0}) ends_anyhow (opened script) (in_setup is) n)
  set_up_keeps = keeps_along (plan_of script) (calls script) (opens script) in_os Any (Unit {0}) ends_anyhow (IsListed script) (go script made turns core is) (in_setup is) (opened script) (first_views script) (λ n. [])
      (let s = start script made turns core is in s.sound) (set_up_answered script made.are (first_views script) (start script made turns core is) (go script made turns core is) turns core is (fitting script made turns core is)) (let f = fitting script made turns core is in f.of_setup)
      (recorded_opened script made.are (first_views script) (start script made turns core is) (go script made turns core is) turns core is (fitting script made turns core is)) (λ e. tt) (opened_keeps script made turns core is)

  -- the takes of the run
  in_early : In Broken (as_taken (taken_in (plan_of script) (set_up script is.setup) (in_clients is) k)) → Fails
  in_early there = subst (In Broken) (sym (taken_append (taken_in (plan_of script) (set_up script is.setup) (in_clients is) k) (taken_in (plan_of script) is.ended is.final k)))
      (in_left (as_taken (taken_in (plan_of script) (set_up script is.setup) (in_clients is) k)) (as_taken (taken_in (plan_of script) is.ended is.final k)) Broken there)

  in_late : In Broken (as_taken (taken_in (plan_of script) is.ended is.final k)) → Fails
  in_late there = subst (In Broken) (sym (taken_append (taken_in (plan_of script) (set_up script is.setup) (in_clients is) k) (taken_in (plan_of script) is.ended is.final k)))
      (in_right (as_taken (taken_in (plan_of script) (set_up script is.setup) (in_clients is) k)) (as_taken (taken_in (plan_of script) is.ended is.final k)) Broken there)

  pub played_holds : H (played script is.setup (in_clients is))
  played_holds = holds_along script in_os (IsListed script) (go script made turns core is) k o (in_os k o at) shape shape_is Fails IsEarly
      (λ c vs m ms sound early ending put. true≢false (sym ending ∙ early)) (λ c vs m ms sound answered fits early. run_ending (plan_of script) c (m ∷ []) ∙ early)
      (in_clients is) (set_up script is.setup) (views_along (plan_of script) (opened script) (first_views script) (in_setup is)) _
      (set_up_sound script made.are (first_views script) (start script made turns core is) (go script made turns core is) turns core is (fitting script made turns core is)) is.answered (let f = fitting script made turns core is in f.of_played)
      (recorded_set_up script made.are (first_views script) (start script made turns core is) (go script made turns core is) turns core is (fitting script made turns core is)) set_up_keeps
      offers.played long_set_up in_early set_up_early set_up_holds

  -- ## The ending

  over_in_ending : (c : Core) → IsOverSo script k o shape Fails c → IsOverSo script k o shape Fails (ending script c)
  over_in_ending c (inl bad) = inl bad
  over_in_ending c (inr (inl fails)) = inr (inl fails)
  over_in_ending c (inr (inr (inl gave))) = inr (inr (inl (λ took more t. gave took more (t.0, t.1, lies_before script k c _ t.2))))
  over_in_ending c (inr (inr (inr (gave, inl done)))) = inr (inr (inr ((λ took t. gave took (t.0, t.1, lies_before script k c _ t.2)), inl (λ took next d lies. done took next d (lies_before script k c _ lies)))))
  over_in_ending c (inr (inr (inr (gave, inr late)))) = inr (inr (inr ((λ took t. gave took (t.0, t.1, lies_before script k c _ t.2)), inr late)))

  closing_holds : H (closing_of script turns core is)
  closing_holds = let h = played_holds in record {
    last = h.last;
    reader = λ seat there. h.reader seat (sym (set_else (played script is.setup (in_clients is)).seats 0 (32 + k) _ (λ e. let z : ⊥ = omega (arith, e) in z)) ∙ there);
    over = λ e. over_in_ending (played script is.setup (in_clients is)) (h.over e);
  }

  closed_holds : H (run (plan_of script) (closing_of script turns core is) (in_closing is))
  closed_holds = holds_along script in_os (IsListed script) (go script made turns core is) k o (in_os k o at) shape shape_is Fails IsEarly
      (λ c vs m ms sound early ending put. true≢false (sym ending ∙ early)) (λ c vs m ms sound answered fits early. run_ending (plan_of script) c (m ∷ []) ∙ early)
      (in_closing is) (closing_of script turns core is) (views_played script turns core is (first_views script)) _
      (closing_sound script made.are (first_views script) (start script made turns core is) (go script made turns core is) turns core is (fitting script made turns core is))
      (end_answered script made.are (first_views script) (start script made turns core is) (go script made turns core is) turns core is (fitting script made turns core is)) (let f = fitting script made turns core is in f.of_closing)
      (recorded_closing script made.are (first_views script) (start script made turns core is) (go script made turns core is) turns core is (fitting script made turns core is)) (closing_keeps script made turns core is)
      (quiet_offered script is.last (closing_of script turns core is)) long_played (λ there. absurd (quiet_takes (plan_of script) k is.last (closing_of script turns core is) Broken there)) played_early closing_holds

  -- the readers are told
  over_when_ending : (c : Core) → IsOverSo script k o shape Fails c → IsOverSo script k o shape Fails (is_ending c)
  over_when_ending c (inl bad) = inl bad
  over_when_ending c (inr (inl fails)) = inr (inl fails)
  over_when_ending c (inr (inr (inl gave))) = inr (inr (inl gave))
  over_when_ending c (inr (inr (inr (gave, how)))) = inr (inr (inr (gave, inr refl)))

  ended_holds : H is.ended
  ended_holds = subst H (sym is.is_ended) (let h = closed_holds in record { last = h.last; reader = h.reader; over = λ e. over_when_ending (run (plan_of script) (closing_of script turns core is) (in_closing is)) (h.over e) })

  -- ## The end

  over_holds : (In k (late_links_of_run script turns core is) → ⊥) → H core
  over_holds in_time = subst H (sym is.is_end) (holds_along script in_os (IsListed script) (go script made turns core is) k o (in_os k o at) shape shape_is Fails (AreLate script made turns core is)
      (λ c vs m ms sound late ending put. in_time (late_put script made turns core is k c vs m ms sound late put)) (late_on script made turns core is)
      is.final is.ended (views_closed script turns core is (first_views script)) _
      (closed_sound script made.are (first_views script) (start script made turns core is) (go script made turns core is) turns core is (fitting script made turns core is)) is.answered_again (let f = fitting script made turns core is in f.of_final)
      (recorded_closed script made.are (first_views script) (start script made turns core is) (go script made turns core is) turns core is (fitting script made turns core is)) (closed_keeps script made turns core is)
      offers.final long_ended in_late (late_first script made turns core is) ended_holds)

  -- ## Whatever the end of its reading

  abbrev Part : Core → Type 0
  Part c = IsPart script k shape c

  part_set_up : Part (set_up script is.setup)
  part_set_up = part_along script k shape shape_is (go script made turns core is) (in_setup is) (opened script) (first_views script) (let s = start script made turns core is in s.sound)
      (set_up_answered script made.are (first_views script) (start script made turns core is) (go script made turns core is) turns core is (fitting script made turns core is)) (let f = fitting script made turns core is in f.of_setup)
      (quiet_offered script is.setup (opened script)) long_opened (λ took t. (offered_by shape took, ap (λ l. l ++ offered_by shape took) (empty_at (plan_of script).links k)))

  part_played : Part (played script is.setup (in_clients is))
  part_played = part_along script k shape shape_is (go script made turns core is) (in_clients is) (set_up script is.setup) (views_along (plan_of script) (opened script) (first_views script) (in_setup is))
      (set_up_sound script made.are (first_views script) (start script made turns core is) (go script made turns core is) turns core is (fitting script made turns core is)) is.answered (let f = fitting script made turns core is in f.of_played)
      offers.played long_set_up part_set_up

  part_closed : Part (run (plan_of script) (closing_of script turns core is) (in_closing is))
  part_closed = part_along script k shape shape_is (go script made turns core is) (in_closing is) (closing_of script turns core is) (views_played script turns core is (first_views script))
      (closing_sound script made.are (first_views script) (start script made turns core is) (go script made turns core is) turns core is (fitting script made turns core is))
      (end_answered script made.are (first_views script) (start script made turns core is) (go script made turns core is) turns core is (fitting script made turns core is)) (let f = fitting script made turns core is in f.of_closing)
      (quiet_offered script is.last (closing_of script turns core is)) long_played (λ took t. part_played took (t.0, t.1, lies_before script k (played script is.setup (in_clients is)) _ t.2))

  part_over : Part core
  part_over = subst Part (sym is.is_end) (part_along script k shape shape_is (go script made turns core is) is.final is.ended (views_closed script turns core is (first_views script))
      (closed_sound script made.are (first_views script) (start script made turns core is) (go script made turns core is) turns core is (fitting script made turns core is)) is.answered_again (let f = fitting script made turns core is in f.of_final)
      offers.final long_ended (subst Part (sym is.is_ended) (λ took t. part_closed took t)))

  -- ## Behind its end

  abbrev B : Core → Type 0
  B c = Behind script k o shape c

  last_played : In AtEnd (as_taken (taken_in (plan_of script) (set_up script is.setup) (in_clients is) k)) → B (played script is.setup (in_clients is))
  last_played there = (lasts_along script k o shape in_os (IsListed script) (go script made turns core is) (in_os k o at) shape_is (in_clients is) (set_up script is.setup) (views_along (plan_of script) (opened script) (first_views script) (in_setup is)) _
      (set_up_sound script made.are (first_views script) (start script made turns core is) (go script made turns core is) turns core is (fitting script made turns core is)) is.answered (let f = fitting script made turns core is in f.of_played)
      (recorded_set_up script made.are (first_views script) (start script made turns core is) (go script made turns core is) turns core is (fitting script made turns core is)) set_up_keeps
      offers.played long_set_up (let h = set_up_holds in (h.last, h.reader))).1 (inr there)

  last_closing : B (played script is.setup (in_clients is)) → B (closing_of script turns core is)
  last_closing b = (
    λ seat there. b.0 seat (sym (set_else (played script is.setup (in_clients is)).seats 0 (32 + k) _ (λ e. let z : ⊥ = omega (arith, e) in z)) ∙ there),
    λ took more t. b.1 took more (t.0, t.1, lies_before script k (played script is.setup (in_clients is)) _ t.2),
  )

  last_closed : B (closing_of script turns core is) → B (run (plan_of script) (closing_of script turns core is) (in_closing is))
  last_closed b = (lasts_along script k o shape in_os (IsListed script) (go script made turns core is) (in_os k o at) shape_is (in_closing is) (closing_of script turns core is) (views_played script turns core is (first_views script)) _
      (closing_sound script made.are (first_views script) (start script made turns core is) (go script made turns core is) turns core is (fitting script made turns core is))
      (end_answered script made.are (first_views script) (start script made turns core is) (go script made turns core is) turns core is (fitting script made turns core is)) (let f = fitting script made turns core is in f.of_closing)
      (recorded_closing script made.are (first_views script) (start script made turns core is) (go script made turns core is) turns core is (fitting script made turns core is)) (closing_keeps script made turns core is)
      (quiet_offered script is.last (closing_of script turns core is)) long_played (let h = closing_holds in (h.last, h.reader))).1 (inl b)

  last_ended : B (run (plan_of script) (closing_of script turns core is) (in_closing is)) → B is.ended
  last_ended b = subst B (sym is.is_ended) (b.0, b.1)

  last_over : B is.ended ⊎ In AtEnd (as_taken (taken_in (plan_of script) is.ended is.final k)) → B core
  last_over x = subst B (sym is.is_end) ((lasts_along script k o shape in_os (IsListed script) (go script made turns core is) (in_os k o at) shape_is is.final is.ended (views_closed script turns core is (first_views script)) _
      (closed_sound script made.are (first_views script) (start script made turns core is) (go script made turns core is) turns core is (fitting script made turns core is)) is.answered_again (let f = fitting script made turns core is in f.of_final)
      (recorded_closed script made.are (first_views script) (start script made turns core is) (go script made turns core is) turns core is (fitting script made turns core is)) (closed_keeps script made turns core is)
      offers.final long_ended (let h = ended_holds in (h.last, h.reader))).1 x)

  last_taken : In AtEnd (heard_takes is k) → B core
  last_taken there = ⊎_elim (λ early. last_over (inl (last_ended (last_closed (last_closing (last_played early)))))) (λ late. last_over (inr late))
      (in_both (as_taken (taken_in (plan_of script) (set_up script is.setup) (in_clients is) k)) (as_taken (taken_in (plan_of script) is.ended is.final k)) AtEnd
      (subst (In AtEnd) (taken_append (taken_in (plan_of script) (set_up script is.setup) (in_clients is) k) (taken_in (plan_of script) is.ended is.final k)) there))

  -- ## Where it lies in the end

  module _ (closes : ClosesInRun script turns core is) where
    rests : AllRest core
    rests = run_all_rest script made turns core is closes

    home : AtHome (plan_of script) core.homes k
    home = links_home (plan_of script) core (views_ended script turns core is (first_views script))
        (ended_sound script made.are (first_views script) (start script made turns core is) (go script made turns core is) turns core is (fitting script made turns core is)) rests k link_inside

    there : TookSoFar (plan_of script) core k home.took
    there = (home.next, home.done, inl home.is)

    took_is : slice_index_or (took_at_home (plan_of script) core.homes) k [] ≡ home.took
    took_is = took_there (plan_of script) core.homes k home.took home.next home.done home.is link_inside

    -- it gave some of what belongs to what it took
    pub gives_part : (more : List ℕ) × (gave_in core k ++ more ≡ offered_by shape (slice_index_or (took_at_home (plan_of script) core.homes) k []))
    gives_part = let x = part_over home.took there in (x.0, x.1 ∙ ap (offered_by shape) (sym took_is))

    -- and where it gave its end, all that belongs to that and to whatever may come
    pub gives_at_end : In AtEnd (heard_takes is k) → (more : List ℕ) → gave_in core k ≡ offered_by shape (slice_index_or (took_at_home (plan_of script) core.homes) k [] ++ more)
    gives_at_end end_ more = (last_taken end_).1 home.took more there ∙ ap (λ l. offered_by shape (l ++ more)) (sym took_is)

    seat_there : (s : SeatState) × (get_elem? core.seats (32 + k) ≡ some s)
    seat_there = at_some core.seats (32 + k) seat_low
      where
        seat_low : 32 + k < length core.seats
        seat_low = let m = (let x = closed_keeps script made turns core is in x.many) in let r = run_seats (plan_of script) is.ended is.final in let e = ap (λ (d : Core). length d.seats) is.is_end in
            let i = at_length (opens script) k o at in omega (arith, m, r, e, i)

    module _ (in_time : In k (late_links_of_run script turns core is) → ⊥) (socket : get_or core.words (open_index (plan_of script) o) 0 ≢ NO_SOCKET) (none_broken : In Broken (heard_takes is k) → ⊥) (faultless : HasFault (gave_in core k) → ⊥) (few : length (gave_in core k) < LIMIT) where
      gave_all : gave_in core k ≡ offered_by shape home.took
      gave_all = by_stand ((over_holds in_time).reader seat_there.0 seat_there.1)
        where
          by_over : IsOverSo script k o shape Fails core → gave_in core k ≡ offered_by shape home.took
          by_over (inl (inl fault)) = absurd (faultless fault)
          by_over (inl (inr most)) = absurd (let z : ⊥ = omega (arith, most, few) in z)
          by_over (inr (inl fails)) = absurd (none_broken fails)
          by_over (inr (inr (inl gave))) = gave home.took [] there ∙ ap (offered_by shape) (append-nil home.took)
          by_over (inr (inr (inr (gave, how)))) = gave home.took there

          at_rest : seat_there.0.program ≡ Rest
          at_rest = rests (32 + k) seat_there.0 seat_there.1

          by_stand : Stands (plan_of script) (calls script) k o (gave_in core k) (over_holds in_time).last (get_or core.words (open_index (plan_of script) o) 0) seat_there.0.program → gave_in core k ≡ offered_by shape home.took
          by_stand (inl x) = absurd (let z : Rest ≡ reader (calls script) k o = sym at_rest ∙ x.0 in cc)
          by_stand (inr (inl x)) = absurd (socket x.1)
          by_stand (inr (inr x)) = by_rest (subst (Goes k (gave_in core k) (over_holds in_time).last) at_rest x)
            where
              by_rest : IsOver (gave_in core k) (over_holds in_time).last → gave_in core k ≡ offered_by shape home.took
              by_rest (inl last) = by_over ((over_holds in_time).over last)
              by_rest (inr bad) = by_over (inl bad)

      -- it gave all that belongs to what it took
      pub gives_all : gave_in core k ≡ offered_by shape (slice_index_or (took_at_home (plan_of script) core.homes) k [])
      gives_all = gave_all ∙ ap (offered_by shape) (sym took_is)
