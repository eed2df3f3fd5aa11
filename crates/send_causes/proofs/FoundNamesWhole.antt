-- In a whole run: why a retry that found no socket under its name lost its attempt.
use Rattle.std.proofs.Common.{◌≡◌, ◌≢◌, ℕ, ◌+◌, ◌<◌, ◌≤◌, ◌⊎◌, ⊎_elim, List, [], ◌++◌, length, get_or, replicate, refl, sym, ap, ◌∙◌, subst, arith}
use Rattle.std.specs.List.{AllByRecursion}
use mathlib.Core.Logic.{dite}
use native.Mathlib.Decide.{ℕ_discrete, dec_le}
use Rattle.sock_words.specs.declared.plain.Plan.{Plan}
use Rattle.corr_core.specs.declared.marks.Plan.{Plan as IdPlan}
use Rattle.sock_words.specs.declared.outcome.Outcome.TheVariants as outcomes
use Rattle.seat_programs.specs.brpc_model.specs.Items.{Item}
use Rattle.seat_programs.specs.brpc_model.specs.Operations.{Turn}
use Rattle.corr_core.specs.IdSlotWord.{parts}
use Rattle.seat_programs.specs.id_rule.specs.LawfulIdTable.{id_index}
use Rattle.seat_programs.specs.declared.task.Op.{Op}
use Rattle.seat_programs.specs.declared.task.Op.TheVariants as ops
use Rattle.seat_programs.specs.declared.task.Task.{Task}
use Rattle.seat_programs.specs.Cores.{Core}
use Rattle.seat_programs.specs.Ticks.{quiet, run}
use Rattle.seat_programs.specs.Tasks.{opens, calls, plan_of, id_plan_of}
use Rattle.seat_programs.specs.Explained.{IsTask, OpensNone}
use Rattle.seat_programs.specs.ExplainedCalls.{Fixed, Order, Seeks, FoundNone, WhyLost, WasUnopened}
use Rattle.seat_programs.specs.ScriptSetupToEnding.{sizes_of, readers_from, all_tasks, opened, ending, set_up, played, is_ending, IsRunWithCalls}
use Rattle.dropped_calls.specs.Below.programs_allowed.specs.program_steps.specs.SoundSeats.{AllRest, views_along}
use Rattle.dropped_calls.specs.Below.programs_allowed.specs.sock_runs.proofs.Quiets.{run_rests}
use Rattle.dropped_calls.specs.Below.programs_allowed.specs.program_walks.proofs.WholeScriptSound.{views_played, views_closed}
use Rattle.dropped_calls.specs.Below.joint_runs.proofs.BothTablesSound.{behind_both}
use Rattle.dropped_calls.specs.Below.joint_runs.proofs.RunsOfBothTables.{AreMade, first_views, joint_runs}
use Rattle.dropped_calls.specs.Below.script_facts.proofs.ReadScriptFacts.{InRange}
use Rattle.dropped_calls.specs.Below.script_facts.proofs.Targets.{AreThere}
use Rattle.dropped_calls.specs.Below.call_owing.specs.LivesOfLinks.{ClosesInRun}
use Rattle.dropped_calls.specs.Below.owed_calls.proofs.OwedCallsAreEnded.{run_all_ended, run_all_rest}
use Rattle.dropped_calls.specs.Below.call_stories.specs.LinkReadingLists.{gave_in}
use Rattle.dropped_calls.specs.Below.call_stories.specs.PostsOfRun.{Post}
use Rattle.dropped_calls.specs.Below.call_stories.specs.Scenes.{Scene, IsOpened, SeeksName, IsTaskOf, HasNoneOf}
use Rattle.dropped_calls.specs.Below.call_stories.specs.Says.{Mark}
use Rattle.dropped_calls.specs.Below.call_stories.specs.CallStories.{HasStory}
use Rattle.dropped_calls.specs.Below.story_steps.proofs.StoryAtRunEnd.{HasEnded, contains_in, listed_or, one_outcome, undo_done}
use Rattle.dropped_calls.specs.Below.story_ticks.proofs.StoryOver.{has_ended}
use Rattle.dropped_calls.specs.Below.call_causes.proofs.RunOfCallStory.{ending_lasts, told_lasts}
use Rattle.dropped_calls.specs.Below.story_ticks.proofs.RunFacts.{own_leads, run_facts, leadings}
use Rattle.dropped_calls.specs.Below.story_ticks.proofs.ScriptTasksFitStory.{are_ascending}
use Rattle.dropped_calls.specs.Below.story_steps.proofs.ExpireAndJoinWhys.{AreAscending, ascending_undo}
use Rattle.dropped_calls.specs.accept_counts.specs.RefusedOrDropped.{DidMiss, DidIn, FoundNothing}
use Rattle.dropped_calls.specs.accept_counts.proofs.RunsKeepAttemptLaw.{IsCallOf}
use Rattle.dropped_calls.specs.attempted_calls.proofs.AttemptedStored.{alone_set_up, rests_set_up, numbered, slots, small, Leads, setup_goes, played_both, some_seats}
use Rattle.send_causes.proofs.FoundNamesRuns.{Since, then_since, since_change, since_ticks, Finds, find_along}
use Rattle.send_causes.proofs.FoundNamesSetup.{none_in_setup, none_beside, none_at_rest, begins_setup, begins_at_rest}
use Rattle.send_causes.proofs.FoundNames.{Missed}
use Rattle.dropped_calls.specs.Below.outcome_stories.specs.OperationStories.{In}

seeks_name : (p : Plan) (clients : List (List Task)) (os : List _) (fixed : Fixed) (gave : ℕ → List ℕ) (orders : ℕ → Order) (n : ℕ) (op : Op) → Seeks p clients os fixed gave orders n op → SeeksName n op
seeks_name p clients os fixed gave orders n (ops.Fail m code) s = s
seeks_name p clients os fixed gave orders n (ops.Hold m) s = s
seeks_name p clients os fixed gave orders n (ops.Send m bytes) s = s
seeks_name p clients os fixed gave orders n (ops.Call asked) s = s
seeks_name p clients os fixed gave orders n _ s = absurd s

-- ## Where a run has ended

module _ (p : Plan) (q : IdPlan) (clients : List (List Task)) (gives : ℕ → List ℕ) (ascending : (c : ℕ) → AreAscending (get_or clients c [])) (w : Scene) (ms : List Mark) (e : HasEnded p q clients gives w ms) (fixed : Fixed) (gave : ℕ → List ℕ) (orders : ℕ → Order) where
  is_task : (c : ℕ) (t : Task) → IsTask clients w.core.outcomes c t → IsTaskOf p q clients gives c t
  is_task c t is = (is.0, is.1, contains_in is.0 t is.2.0 is.2.1 is.2.2)

  opens_none : (n : ℕ) (t : Task) → HasNoneOf p q clients gives w n t → OpensNone clients w.core.outcomes n t
  opens_none n t h k slot version op became = let x = h k op in x.2 (subst IsOpened (one_outcome p q clients gives w ms e t.number (outcomes.Opened slot version k) x.0 became (e.tasks.said t.number x.0 x.1)) tt)

  -- of a client that had done nothing, or none of whose operations counts
  none_before : (c name o : ℕ) → Missed p q clients gives w c name o → FoundNone p clients w.core.outcomes fixed gave orders c 0 name
  none_before c name o x = record {
    setup = λ u is. opens_none name u (x.none_.setup u (is_task 0 u is));
    own = λ u is low. absurd (omega (arith, low));
  }

  -- of the client of the call, up to this
  none_up_to : (c name : ℕ) (t : Task) → IsTask clients w.core.outcomes c t → Missed p q clients gives w c name t.number → FoundNone p clients w.core.outcomes fixed gave orders c (t.number + 1) name
  none_up_to c name t it x = record {
    setup = λ u is. opens_none name u (x.none_.setup u (is_task 0 u is));
    own = λ u is low. let y = x.none_.own u (done u is low) in (opens_none name u y.0, (λ s. e.tasks.said u.number outcomes.Unopened (y.1 (seeks_name p clients w.core.outcomes fixed gave orders name u.op s))));
  }
    where
      order : (d u : Task) → In d x.done → In u x.todo → d.number < u.number
      order = (ascending_undo p q clients gives ascending x.done x.todo (subst AreAscending (sym x.placed) (ascending c))).1

      done : (u : Task) → IsTask clients w.core.outcomes c u → u.number < t.number + 1 → In u x.done
      done u is low = let mine = is_task c u is in ⊎_elim (λ y. y)
          (λ todo. absurd (let z = order t u (x.begun t (is_task c t it) refl) todo in omega (arith, z, low)))
          (undo_done p q clients gives x.done x.todo u (subst (In u) (sym (x.placed ∙ listed_or clients c mine.0 mine.1)) mine.2))

-- ## A whole run

module _ (script : List Item) (made : AreMade script) (there : AreThere script) (range : AllByRecursion InRange script) (turns : List Turn) (core : Core) (is : IsRunWithCalls script turns core) where
  abbrev p : Plan
  p = plan_of script

  abbrev q : IdPlan
  q = id_plan_of script

  open run_facts script made turns core is use {set_up_ahead, played_ahead, ended_ahead, many_played, many_closed, many_seats}
  open leadings script turns core is (gave_in core) (own_leads script core) use {told_leads, closed_leads, ending_leads, played_leads}

  abbrev Later_ : Scene → Core → Type 0
  Later_ w c = Since (plan_of script) (id_plan_of script) (all_tasks script) (gave_in core) (numbered script made there range turns core is) (slots script made there range turns core is) (small script made there range turns core is) w c

  abbrev Has : List Post → List ℕ → Core → Type 0
  Has ps ns c = HasStory (plan_of script) (id_plan_of script) (all_tasks script) (gave_in core) ps ns c

  abbrev set_scene : Scene
  set_scene = (setup_goes script made there range turns core is).owns.story.scene

  played_finds : Finds (plan_of script) (id_plan_of script) (all_tasks script) (gave_in core) (numbered script made there range turns core is) (slots script made there range turns core is) (small script made there range turns core is) (IsCallOf script) set_scene (set_up script is.setup) (is.scheduled ++ is.later)
  played_finds = let s = joint_runs script turns core is made in find_along p q (all_tasks script) (gave_in core) (numbered script made there range turns core is) (slots script made there range turns core is) (small script made there range turns core is) (IsCallOf script) (is.scheduled ++ is.later) (set_up script is.setup)
      (views_along (plan_of script) (opened script) (first_views script) (replicate is.setup (quiet 0))) s.clients is.answered (rests_set_up p (is.scheduled ++ is.later) (set_up script is.setup) set_up_ahead is.is_set_up) played_leads
      (setup_goes script made there range turns core is).owns

  abbrev rested : Core
  rested = played script is.setup (is.scheduled ++ is.later)

  abbrev closed : Core
  closed = run (plan_of script) (ending script (played script is.setup (is.scheduled ++ is.later))) (replicate is.last (quiet 0))

  begun : (ps : List Post) (ns : List ℕ) (h : Has ps ns rested) → Later_ h.scene (ending script rested)
  begun ps ns h = since_change p q (all_tasks script) (gave_in core) (numbered script made there range turns core is) (slots script made there range turns core is) (small script made there range turns core is) h.scene h.scene.decisions ps ns (ending script rested)
      (ending_lasts p q (all_tasks script) (gave_in core) (numbered script made there range turns core is) (slots script made there range turns core is) (small script made there range turns core is) (opens script) ps ns rested (views_played script turns core is (first_views script)) (played_both script made there range turns core is)
      (let m = many_played in let s = some_seats script made there range turns core is in omega (arith, m, s)) played_ahead (run_rests (plan_of script) (set_up script is.setup) (is.scheduled ++ is.later) 0 is.is_set_up)
      ending_leads h)

  closing : (ps : List Post) (ns : List ℕ) (h : Has ps ns (ending script rested)) → Later_ h.scene closed
  closing ps ns h = let s = joint_runs script turns core is made in since_ticks p q (all_tasks script) (gave_in core) (numbered script made there range turns core is) (slots script made there range turns core is) (small script made there range turns core is) (replicate is.last (quiet 0)) (ending script rested)
      (views_played script turns core is (first_views script)) s.closing (alone_set_up p is.last (ending script rested)) closed_leads ps ns h

  ended : (ps : List Post) (ns : List ℕ) (h : Has ps ns closed) → Later_ h.scene is.ended
  ended ps ns h = let s = joint_runs script turns core is made in let both = behind_both p q (ending script rested) (views_played script turns core is (first_views script)) (replicate is.last (quiet 0)) s.closing in
      subst (λ c. Later_ h.scene c) (sym is.is_ended) (since_change p q (all_tasks script) (gave_in core) (numbered script made there range turns core is) (slots script made there range turns core is) (small script made there range turns core is) h.scene h.scene.decisions ps ns (is_ending closed)
      (told_lasts p q (all_tasks script) (gave_in core) (numbered script made there range turns core is) (slots script made there range turns core is) (small script made there range turns core is) ps ns closed (views_closed script turns core is (first_views script)) both
      (let m = many_closed in let s = some_seats script made there range turns core is in omega (arith, m, s)) told_leads h))

  final : (ps : List Post) (ns : List ℕ) (h : Has ps ns is.ended) → Later_ h.scene core
  final ps ns h = let s = joint_runs script turns core is made in subst (λ c. Later_ h.scene c) (sym is.is_end) (since_ticks p q (all_tasks script) (gave_in core) (numbered script made there range turns core is) (slots script made there range turns core is) (small script made there range turns core is) is.final is.ended
      (views_closed script turns core is (first_views script)) s.final (rests_set_up p is.final is.ended ended_ahead is.is_over) (subst (Leads script made there range turns core is) is.is_end (own_leads script core)) ps ns h)

  abbrev ThenSince : (w : Scene) (c d : Core) → Later_ w c → ((ps : List Post) (ns : List ℕ) (h : Has ps ns c) → Later_ h.scene d) → Later_ w d
  ThenSince w c d s on = then_since (plan_of script) (id_plan_of script) (all_tasks script) (gave_in core) (numbered script made there range turns core is) (slots script made there range turns core is) (small script made there range turns core is) w c d s on

  -- up to the end
  over : (ps : List Post) (ns : List ℕ) (h : Has ps ns rested) → Later_ h.scene core
  over ps ns h = ThenSince h.scene is.ended core (ThenSince h.scene closed is.ended (ThenSince h.scene (ending script rested) closed (begun ps ns h) closing) ended) final

  -- the story of the end, in which all counts that was missed by clients before the ending
  at_end : Later_ played_finds.later.story.scene core
  at_end = over played_finds.later.posted played_finds.later.shown played_finds.later.story

  missed : (j name o id n : ℕ) → j ≢ 0 → DidIn (plan_of script) (set_up script is.setup) (is.scheduled ++ is.later) j (DidMiss name o id n) → Missed (plan_of script) (id_plan_of script) (all_tasks script) (gave_in core) at_end.story.scene j name o
  missed j name o id n other x = at_end.stays j name o (played_finds.missed j name o id n other x)

  module _ (closes : ClosesInRun script turns core is) where
    at_end_over : HasEnded (plan_of script) (id_plan_of script) (all_tasks script) (gave_in core) at_end.story.scene at_end.story.marks
    at_end_over = let h = at_end.story in has_ended (plan_of script) (id_plan_of script) (all_tasks script) (gave_in core) h.scene h.marks h.story
        (subst AllRest (sym h.is) (run_all_rest script made turns core is closes))
        (λ i inside. subst (λ (d : Core). (parts (get_or d.calls.words (id_index i) 0)).state ≡ 0) (sym h.is) (run_all_ended script made turns core is closes i inside))
        (let many = ap (λ (d : Core). length d.seats) h.is ∙ many_seats in
        let seats = made.seats in let few = made.few_clients in omega (arith, many, seats, few))

    -- only seats of clients look for a socket before the ending, and none does in the setup
    of_client : (j name o id n : ℕ) → j < 32 → DidIn (plan_of script) (opened script) (replicate is.setup (quiet 0)) j (DidMiss name o id n) ⊎ DidIn (plan_of script) (set_up script is.setup) (is.scheduled ++ is.later) j (DidMiss name o id n)
        → (j ≢ 0) × (j < length (all_tasks script)) × DidIn (plan_of script) (set_up script is.setup) (is.scheduled ++ is.later) j (DidMiss name o id n)
    of_client j name o id n low did = (other, inside, ⊎_elim (λ x. absurd (none_beside p is.setup (opened script) j other name o id n x)) (λ x. x) did)
      where
        other : j ≢ 0
        other first = ⊎_elim
            (λ x. none_in_setup p is.setup (opened script) (begins_setup p q (sizes_of p q) (all_tasks script) (readers_from (calls script) 0 (opens script)) (let are = made.are in are.some_) (let are = made.are in are.setup)) name o id n (subst (λ i. DidIn p (opened script) (replicate is.setup (quiet 0)) i (DidMiss name o id n)) first x))
            (λ x. none_at_rest p (is.scheduled ++ is.later) (set_up script is.setup) 0 set_up_ahead is.is_set_up name o id n (subst (λ i. DidIn p (set_up script is.setup) (is.scheduled ++ is.later) i (DidMiss name o id n)) first x)) did

        inside : j < length (all_tasks script)
        inside = dite (dec_le (length (all_tasks script)) j)
            (λ past. absurd (⊎_elim (λ x. none_beside p is.setup (opened script) j other name o id n x)
            (λ x. none_at_rest p (is.scheduled ++ is.later) (set_up script is.setup) j set_up_ahead
            (run_rests p (opened script) (replicate is.setup (quiet 0)) j (begins_at_rest p q (sizes_of p q) (all_tasks script) (readers_from (calls script) 0 (opens script)) j past low)) name o id n x) did))
            (λ less. omega (arith, less))

    -- a retry of the call that is task t of client c, which found no socket under the name, lost its attempt for it
    pub found_lost : (fixed : Fixed) (gave : ℕ → List ℕ) (orders : ℕ → Order) (c : ℕ) (t : Task) (n name : ℕ) → IsTask (all_tasks script) core.outcomes c t → FoundNothing script turns core is t.number n name
        → WhyLost (plan_of script) (all_tasks script) core.outcomes fixed gave orders c t.number n name
    found_lost fixed gave orders c t n name it (later, j, id, low, did) = let x = of_client j name t.number id n low did in let some_ : 1 ≤ j = positive j x.0 in dite (ℕ_discrete j c)
        (λ own. WasUnopened later j (t.number + 1) some_ x.1 (λ _. omega arith) (subst (λ (d : Core). FoundNone (plan_of script) (all_tasks script) d.outcomes fixed gave orders j (t.number + 1) name) at_end.story.is
        (none_up_to p q (all_tasks script) (gave_in core) (are_ascending script made there range (gave_in core)) at_end.story.scene at_end.story.marks at_end_over fixed gave orders j name t (subst (λ k. IsTask (all_tasks script) core.outcomes k t) (sym own) it) (missed j name t.number id n x.0 x.2))))
        (λ other. WasUnopened later j 0 some_ x.1 (λ same. absurd (other same)) (subst (λ (d : Core). FoundNone (plan_of script) (all_tasks script) d.outcomes fixed gave orders j 0 name) at_end.story.is
        (none_before p q (all_tasks script) (gave_in core) (are_ascending script made there range (gave_in core)) at_end.story.scene at_end.story.marks at_end_over fixed gave orders j name t.number (missed j name t.number id n x.0 x.2))))
      where
        positive : (i : ℕ) → i ≢ 0 → 1 ≤ i
        positive i ne = omega (arith, ne)
