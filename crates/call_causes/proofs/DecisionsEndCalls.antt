-- In a whole run a call that failed by an error that was posted ended by a seat's decision on that error.
use Rattle.std.proofs.Common.{◌≡◌, ◌≢◌, ℕ, ◌+◌, inl, inr, ⊎_elim, cond, eq-eqb, List, [], ◌∷◌, ◌++◌, replicate, get_or, Contains, refl, sym, ap, ◌∙◌, subst}
use Rattle.std.specs.List.{AllByRecursion}
use Rattle.sock_words.specs.declared.plain.Plan.{Plan}
use Rattle.sock_words.specs.declared.outcome.Outcome.TheVariants as outcomes
use Rattle.seat_programs.specs.brpc_model.specs.Frame.{Frame}
use Rattle.seat_programs.specs.brpc_model.specs.Items.{Item}
use Rattle.seat_programs.specs.brpc_model.specs.Operations.{Turn}
use Rattle.corr_core.specs.IdSlotWord.{error_of}
use Rattle.corr_core.specs.declared.marks.Plan.{Plan as IdPlan}
use Rattle.sock_message.specs.Asked.{Asked}
use Rattle.seat_programs.specs.declared.task.Op.TheVariants as ops
use Rattle.seat_programs.specs.declared.task.Task.{Task}
use Rattle.seat_programs.specs.Cores.{Core}
use Rattle.seat_programs.specs.Ticks.{Moment, quiet, ticked}
use Rattle.seat_programs.specs.Tasks.{plan_of, id_plan_of}
use Rattle.seat_programs.specs.Explained.{IsTask, Became}
use Rattle.seat_programs.specs.ExplainedCalls.{Fixed, Order}
use Rattle.seat_programs.specs.ScriptSetupToEnding.{all_tasks, opened, ending, set_up, played, IsRunWithCalls}
use Rattle.story_ticks.specs.Below.joint_runs.proofs.RunsOfBothTables.{AreMade}
use Rattle.story_ticks.specs.Below.call_owing.specs.Below.script_facts.proofs.ReadScriptFacts.{InRange}
use Rattle.story_ticks.specs.Below.call_owing.specs.Below.script_facts.proofs.Targets.{AreThere}
use Rattle.story_ticks.specs.Below.call_owing.specs.LivesOfLinks.{ClosesInRun}
use Rattle.story_ticks.specs.call_stories.specs.LinkReadingLists.{gave_in, times, attempts_of_run}
use Rattle.story_ticks.specs.call_stories.specs.PostsOfRun.{Post, posts_of_run}
use Rattle.story_ticks.specs.call_stories.specs.Decided.{Decision, decided_at, decided_by}
use Rattle.story_ticks.specs.call_stories.specs.Target.{FailedByDecision}
use Rattle.story_ticks.specs.call_stories.specs.Scenes.{Scene, WasPosted, FailedIn, by_expiry, by_compression, by_other}
use Rattle.story_ticks.specs.call_stories.specs.Says.{Mark}
use Rattle.story_ticks.specs.story_steps.proofs.AttemptsBehindAsides.{in_behind, in_front}
use Rattle.story_ticks.specs.story_steps.proofs.StoryAtRunEnd.{HasEnded, call_of, answered}
use Rattle.story_ticks.specs.story_steps.proofs.ExpireAndJoinWhys.{AreAscending, in_contains}
use Rattle.call_causes.proofs.CallWhys.{expired_with}
use Rattle.story_ticks.proofs.ScriptTasksFitStory.{are_ascending}
use Rattle.call_causes.proofs.RunOfCallStory.{in_either}
use Rattle.call_causes.proofs.WholeCallStory.{run_has_story, run_attempts, run_posted, run_decided, run_has_ended}
use Rattle.story_ticks.specs.Below.outcome_stories.specs.OperationStories.{In}
use Rattle.story_ticks.specs.Below.outcome_stories.specs.Facts.{shown_in, shown_in_run}

module _ (p : Plan) (q : IdPlan) (clients : List (List Task)) (gives : ℕ → List ℕ) (w : Scene) (ms : List Mark) (e : HasEnded p q clients gives w ms) (fixed : Fixed) (orders : ℕ → Order) (last : ℕ → ℕ) (counts : (o : ℕ) → times o w.advances ≡ last o) (posts : List Post) (posted : (id error : ℕ) → WasPosted w id error → In (record { id = id; error = error }) posts)
    (decided : ℕ → List Decision) (by_seat : (d : Decision) → In d w.decisions → (j : ℕ) × In d (decided j)) (ascending : (c : ℕ) → AreAscending (get_or clients c [])) (as_given : (k : ℕ) → gave_in w.core k ≡ gives k) where
  -- a call failed by an `expire`, by a compressed response, or by an error that was posted for its last attempt, on which a seat decided
  failed_by : (c : ℕ) (t : Task) (asked : Asked) (id code : ℕ) → IsTask clients w.core.outcomes c t → t.op ≡ ops.Call asked → Became clients w.core.outcomes t.number (outcomes.CallFailed id code) → FailedByDecision p clients w.core.outcomes fixed (gave_in w.core) orders last posts decided t.number asked id code
  failed_by c t asked id code is op has = ⊎_elim (λ own. absurd own.1) (λ x. by_cause x.0 x.2.0 x.3 x.2.1) (call_of p q clients gives w ms e c t asked (outcomes.CallFailed id code) is op has)
    where
      by_cause : (i : ℕ) → id ≡ i → t.number ≡ asked.operation → FailedIn p q clients gives w i asked code → FailedByDecision p clients w.core.outcomes fixed (gave_in w.core) orders last posts decided t.number asked id code
      by_cause i same own (by_expiry is x) = inl (
        is,
        ⊎_elim
            (λ s. inl (expired_with p q clients gives ascending w ms e fixed orders as_given last counts asked t.number outcomes.Expired x.0 x.1 own x.2 x.3 s))
            (λ s. inr (expired_with p q clients gives ascending w ms e fixed orders as_given last counts asked t.number outcomes.Queued x.0 x.1 own x.2 x.3 s)) x.4,
      )
      by_cause i same own (by_compression is x) = inr (inl (is, answered p q clients gives w ms e fixed orders id asked (λ (frame : Frame). frame.meta.compress_type ≢ Rattle.std.specs.Prelude.pos 0) (subst (λ k. Rattle.story_ticks.specs.call_stories.specs.Scenes.IsAnsweredIn p q clients gives w k asked (λ (frame : Frame). frame.meta.compress_type ≢ Rattle.std.specs.Prelude.pos 0)) (sym same) x)))
      by_cause i same own (by_other n x there ended by_last on) =
          let n_is : n ≡ last t.number = sym ended.2 ∙ (counts asked.operation ∙ ap last (sym own)) in
          let s = by_seat (record { id = i; asked = asked; error = error_of code n }) on in
          inr (inr (
            subst (λ k. Contains posts (record { id = id; error = error_of code k })) n_is (subst (λ k. Contains posts (record { id = k; error = error_of code n })) (sym same) (in_contains posts (record { id = i; error = error_of code n }) (posted i (error_of code n) there))),
            ⊎_elim (λ final. inl final) (λ u. inr (ap (λ k. k + 2) (sym n_is) ∙ u)) by_last,
            s.0,
            subst (λ k. In (record { id = id; asked = asked; error = error_of code k }) (decided s.0)) n_is (subst (λ k. In (record { id = k; asked = asked; error = error_of code n }) (decided s.0)) (sym same) s.1),
          ))

-- ## Who decides

-- of each decision in ticks some seat made it
seat_decides : (p : Plan) (ms : List Moment) (c : Core) (d : Decision) → In d (shown_in decided_at p c ms) → (j : ℕ) × In d (shown_in (decided_by j) p c ms)
seat_decides p [] c d there = absurd there
seat_decides p (m ∷ ms) c d there = ⊎_elim
    (λ now. (m.seat, in_front d (decided_by m.seat c m) (shown_in (decided_by m.seat) p (ticked p c m) ms) (subst (λ b. In d (cond b (decided_at c m) [])) (sym (eq-eqb m.seat m.seat refl)) now)))
    (λ later. let x = seat_decides p ms (ticked p c m) d later in (x.0, in_behind d (decided_by x.0 c m) (shown_in (decided_by x.0) p (ticked p c m) ms) x.1))
    (in_either d (decided_at c m) (shown_in decided_at p (ticked p c m) ms) there)

module _ (script : List Item) (turns : List Turn) (core : Core) (is : IsRunWithCalls script turns core) where
  -- what the parts of the run show
  abbrev in_setup : {A : Type 0} → (Core → Moment → List A) → List A
  in_setup show = shown_in show (plan_of script) (opened script) (replicate is.setup (quiet 0))

  abbrev in_clients : {A : Type 0} → (Core → Moment → List A) → List A
  in_clients show = shown_in show (plan_of script) (set_up script is.setup) (is.scheduled ++ is.later)

  abbrev in_closing : {A : Type 0} → (Core → Moment → List A) → List A
  in_closing show = shown_in show (plan_of script) (ending script (played script is.setup (is.scheduled ++ is.later))) (replicate is.last (quiet 0))

  abbrev in_final : {A : Type 0} → (Core → Moment → List A) → List A
  in_final show = shown_in show (plan_of script) is.ended is.final

  pub seat_decides_in_run : (d : Decision) → In d (shown_in_run script turns core is decided_at) → (j : ℕ) × In d (shown_in_run script turns core is (decided_by j))
  seat_decides_in_run d there = ⊎_elim
      (λ a. let x = seat_decides (plan_of script) (replicate is.setup (quiet 0)) (opened script) d a in (x.0, in_front d (in_setup (decided_by x.0)) (in_clients (decided_by x.0) ++ (in_closing (decided_by x.0) ++ in_final (decided_by x.0))) x.1))
      (λ l. ⊎_elim
      (λ a. let x = seat_decides (plan_of script) (is.scheduled ++ is.later) (set_up script is.setup) d a in (x.0, in_behind d (in_setup (decided_by x.0)) (in_clients (decided_by x.0) ++ (in_closing (decided_by x.0) ++ in_final (decided_by x.0))) (in_front d (in_clients (decided_by x.0)) (in_closing (decided_by x.0) ++ in_final (decided_by x.0)) x.1)))
      (λ l'. ⊎_elim
      (λ a. let x = seat_decides (plan_of script) (replicate is.last (quiet 0)) (ending script (played script is.setup (is.scheduled ++ is.later))) d a in
      (x.0, in_behind d (in_setup (decided_by x.0)) (in_clients (decided_by x.0) ++ (in_closing (decided_by x.0) ++ in_final (decided_by x.0))) (in_behind d (in_clients (decided_by x.0)) (in_closing (decided_by x.0) ++ in_final (decided_by x.0)) (in_front d (in_closing (decided_by x.0)) (in_final (decided_by x.0)) x.1))))
      (λ a. let x = seat_decides (plan_of script) is.final is.ended d a in
      (x.0, in_behind d (in_setup (decided_by x.0)) (in_clients (decided_by x.0) ++ (in_closing (decided_by x.0) ++ in_final (decided_by x.0))) (in_behind d (in_clients (decided_by x.0)) (in_closing (decided_by x.0) ++ in_final (decided_by x.0)) (in_behind d (in_closing (decided_by x.0)) (in_final (decided_by x.0)) x.1))))
      (in_either d (in_closing decided_at) (in_final decided_at) l'))
      (in_either d (in_clients decided_at) (in_closing decided_at ++ in_final decided_at) l))
      (in_either d (in_setup decided_at) (in_clients decided_at ++ (in_closing decided_at ++ in_final decided_at)) there)

-- ## A whole run

module _ (script : List Item) (made : AreMade script) (there : AreThere script) (range : AllByRecursion InRange script) (turns : List Turn) (core : Core) (is : IsRunWithCalls script turns core) (closes : ClosesInRun script turns core is) (fixed : Fixed) (orders : ℕ → Order) where
  -- a call that failed did so by an `expire`, by a compressed response, or by an error that was posted for its last attempt, on which some seat decided
  pub run_failed_decided : (client : ℕ) (t : Task) (asked : Asked) (id code : ℕ) → IsTask (all_tasks script) core.outcomes client t → t.op ≡ ops.Call asked → Became (all_tasks script) core.outcomes t.number (outcomes.CallFailed id code)
      → FailedByDecision (plan_of script) (all_tasks script) core.outcomes fixed (gave_in core) orders (attempts_of_run script turns core is) (posts_of_run script turns core is) (λ j. shown_in_run script turns core is (decided_by j)) t.number asked id code
  run_failed_decided client t asked id code at op has = let h = run_has_story script made there range turns core is in let e = run_has_ended script made there range turns core is closes in
      subst (λ (d : Core). IsTask (all_tasks script) d.outcomes client t → Became (all_tasks script) d.outcomes t.number (outcomes.CallFailed id code) → FailedByDecision (plan_of script) (all_tasks script) d.outcomes fixed (gave_in d) orders (attempts_of_run script turns core is) (posts_of_run script turns core is) (λ j. shown_in_run script turns core is (decided_by j)) t.number asked id code) h.is
      (λ at' has'. failed_by (plan_of script) (id_plan_of script) (all_tasks script) (gave_in core) h.scene h.marks e fixed orders (attempts_of_run script turns core is) (run_attempts script made there range turns core is) (posts_of_run script turns core is) (run_posted script made there range turns core is)
      (λ j. shown_in_run script turns core is (decided_by j)) (λ d on. seat_decides_in_run script turns core is d (run_decided script made there range turns core is d on))
      (are_ascending script made there range (gave_in core)) (λ k. ap (λ (d : Core). gave_in d k) h.is) client t asked id code at' op has') at has
