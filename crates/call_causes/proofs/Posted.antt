-- In a whole run each error that ended a call, or for which its attempt was advanced, was posted in it for that attempt, and no call comes to more attempts than its range has.
use Rattle.std.proofs.Common.{◌≡◌, ◌≢◌, ℕ, zero, suc, ◌+◌, ◌<◌, ◌≤◌, ◌⊎◌, inl, inr, ⊎_elim, List, [], ◌∷◌, get_or, slice_get, None, Some, refl, sym, ap, ◌∙◌, subst, arith}
use mathlib.Core.Logic.{dite}
use native.Mathlib.Decide.{ℕ_discrete}
use Rattle.std.specs.List.{AllByRecursion}
use Rattle.sock_words.specs.declared.plain.Plan.{Plan}
use Rattle.sock_words.specs.declared.outcome.Outcome.{Outcome}
use Rattle.sock_words.specs.declared.outcome.Outcome.TheVariants as outcomes
use Rattle.seat_programs.specs.brpc_model.specs.Items.{Item}
use Rattle.seat_programs.specs.brpc_model.specs.Operations.{Turn}
use Rattle.corr_core.specs.IdSlotWord.{error_of}
use Rattle.corr_core.specs.declared.marks.Plan.{Plan as IdPlan}
use Rattle.sock_message.specs.Asked.{Asked}
use Rattle.seat_programs.specs.declared.task.Op.TheVariants as ops
use Rattle.seat_programs.specs.declared.task.Task.{Task}
use Rattle.seat_programs.specs.Cores.{Core}
use Rattle.seat_programs.specs.Tasks.{plan_of, id_plan_of}
use Rattle.seat_programs.specs.Explained.{TaskFits, OpFits, IsTask, Became}
use Rattle.seat_programs.specs.ExplainedCalls.{Fixed, Order, ShowsId}
use Rattle.seat_programs.specs.ScriptSetupToEnding.{all_tasks, IsRunWithCalls}
use Rattle.story_ticks.specs.Below.joint_runs.proofs.RunsOfBothTables.{AreMade}
use Rattle.story_ticks.specs.Below.call_owing.specs.Below.script_facts.proofs.ReadScriptFacts.{InRange}
use Rattle.story_ticks.specs.Below.call_owing.specs.Below.script_facts.proofs.Targets.{AreThere}
use Rattle.story_ticks.specs.Below.call_owing.specs.LivesOfLinks.{ClosesInRun}
use Rattle.story_ticks.specs.call_stories.specs.LinkReadingLists.{gave_in, times, attempts_of_run}
use Rattle.story_ticks.specs.call_stories.specs.PostsOfRun.{Post, posts_of_run}
use Rattle.story_ticks.specs.call_stories.specs.Decided.{Decision, decided_by}
use Rattle.story_ticks.specs.call_stories.specs.Target.{FailedByPost, FailedByDecision, AdvancedByPost}
use Rattle.story_ticks.specs.call_stories.specs.Scenes.{Birth, Scene, WasPosted, IsTaskOf, WhyEnded}
use Rattle.story_ticks.specs.call_stories.specs.Says.{Mark}
use Rattle.story_ticks.specs.call_stories.specs.CallStories.{BirthsLaw, TasksLaw}
use Rattle.story_ticks.specs.story_steps.proofs.MarkMoves.{in_todo, in_done, listed}
use Rattle.story_ticks.specs.story_steps.proofs.NumberedTasks.{AreNumbered, one_task, listed_or}
use Rattle.story_ticks.specs.story_steps.proofs.BirthTicks.{in_all}
use Rattle.story_ticks.specs.story_steps.proofs.StoryAtRunEnd.{HasEnded, one_outcome, ended_call, shows_own, contains_in}
use Rattle.story_ticks.specs.story_steps.proofs.ExpireAndJoinWhys.{in_contains}
use Rattle.story_ticks.proofs.ScriptTasksFitStory.{are_numbered}
use Rattle.call_causes.proofs.WholeCallStory.{run_has_story, run_attempts, run_posted, run_has_ended}
use Rattle.call_causes.proofs.DecisionsEndCalls.{run_failed_decided}
use Rattle.story_ticks.specs.Below.outcome_stories.specs.OperationStories.{In}
use Rattle.story_ticks.specs.Below.outcome_stories.specs.Facts.{shown_in_run}

-- each task of each client
all_of : (P : Task → Type 0) (cs : List (List Task)) → AllByRecursion (AllByRecursion P) cs → (c : ℕ) (ts : List Task) → slice_get cs c ≡ Some ts → AllByRecursion P ts
all_of P [] all c ts is = absurd (let z : None ≡ Some ts = is in cc)
all_of P (us ∷ cs) all zero ts is = let e : us ≡ ts = cc in subst (AllByRecursion P) e all.0
all_of P (us ∷ cs) all (suc c) ts is = all_of P cs all.1 c ts is

module _ (p : Plan) (q : IdPlan) (clients : List (List Task)) (gives : ℕ → List ℕ) where
  is_task : (os : List (Rattle.std.specs.Prelude.Option Outcome)) (c : ℕ) (t : Task) → IsTask clients os c t → IsTaskOf p q clients gives c t
  is_task os c t is = (is.0, is.1, contains_in is.0 t is.2.0 is.2.1 is.2.2)

  -- ## Attempts

  module _ (w : Scene) (ms : List Mark) (births : BirthsLaw p q clients gives w) (tasks : TasksLaw p q clients gives w w.core.outcomes w.sayings ms) where
    -- an operation has an id, or none
    id_of : (o : ℕ) → ((b : Birth) × In b w.births × (b.asked.operation ≡ o)) ⊎ ((b : Birth) → In b w.births → b.asked.operation ≢ o)
    id_of o = search_in w.births
      where
        search_in : (bs : List Birth) → ((b : Birth) × In b bs × (b.asked.operation ≡ o)) ⊎ ((b : Birth) → In b bs → b.asked.operation ≢ o)
        search_in [] = inr (λ b there. absurd there)
        search_in (b ∷ bs) = dite (ℕ_discrete b.asked.operation o) (λ same. inl (b, inl refl, same))
            (λ ne. ⊎_elim (λ x. inl (x.0, inr x.1, x.2)) (λ none_. inr (λ c there. ⊎_elim (λ same e. ne (ap (λ (x : Birth). x.asked.operation) (sym same) ∙ e)) (λ later. none_ c later) there)) (search_in bs))

    -- it is the id of the call that is the operation
    own_call : AreNumbered p q clients gives → (c : ℕ) (t : Task) (asked : Asked) → IsTaskOf p q clients gives c t → t.op ≡ ops.Call asked → (b : Birth) → In b w.births → b.asked.operation ≡ t.number → b.asked ≡ asked
    own_call numbered c t asked is op b there same =
        let y = tasks.begun b there in
        let placed : In y.2 (get_or clients y.0 []) = subst (In y.2) (tasks.placed y.0 y.1 y.3) (⊎_elim (λ done. in_done p q clients gives y.1.done y.1.todo y.2 done) (λ todo. in_todo p q clients gives y.1.done y.1.todo y.2 (subst (In y.2) (sym todo.1) (inl refl))) y.4.2) in
        let number : y.2.number ≡ t.number = y.4.1 ∙ same in
        let client : y.0 ≡ c = numbered.apart y.0 c y.2 t (listed p q clients gives clients y.0 y.2 placed) is number in
        let one : y.2 ≡ t = one_task (get_or clients c []) (numbered.distinct c) y.2 t (subst (λ k. In y.2 (get_or clients k [])) client placed) (subst (In t) (sym (listed_or clients c is.0 is.1)) is.2) number in
        let call : ops.Call b.asked ≡ ops.Call asked = sym y.4.0 ∙ (ap (λ (x : Task). x.op) one ∙ op) in
        let e : b.asked ≡ asked = cc in e

    -- no call comes to more attempts than its range has
    few_attempts : AreNumbered p q clients gives → (c : ℕ) (t : Task) (asked : Asked) → IsTaskOf p q clients gives c t → t.op ≡ ops.Call asked → 2 ≤ asked.range → times t.number w.advances + 2 ≤ asked.range
    few_attempts numbered c t asked is op two = ⊎_elim
        (λ x. subst (λ (a : Asked). times t.number w.advances + 2 ≤ a.range) (own_call numbered c t asked is op x.0 x.1 x.2) (subst (λ o. times o w.advances + 2 ≤ x.0.asked.range) x.2 (births.few x.0 x.1)))
        (λ none_. let z = births.unmade t.number none_ in omega (arith, z, two))
        (id_of t.number)

  module _ (w : Scene) (ms : List Mark) (e : HasEnded p q clients gives w ms) (fixed : Fixed) (orders : ℕ → Order) (last : ℕ → ℕ) (counts : (o : ℕ) → times o w.advances ≡ last o) (posts : List Post) (posted : (id error : ℕ) → WasPosted w id error → In (record { id = id; error = error }) posts) where
    -- an advance was for an error of the attempt before, which ends no call by its code alone
    advanced_by : (o n : ℕ) → n < last o → AdvancedByPost p clients w.core.outcomes fixed (gave_in w.core) orders posts o n
    advanced_by o n less = ⊎_elim
        (λ x. let a = e.births.advanced x.0 x.1 n (subst (λ k. n < k) (sym (counts o) ∙ ap (λ k. times k w.advances) (sym x.2)) less) in (
          x.0.id,
          a.0,
          λ outcome has shown is. let y = ended_call p q clients gives w ms e x.0 x.1 in
              sym (shows_own p q clients gives w ms e x.0 outcome shown (subst (WhyEnded p q clients gives w x.0) (one_outcome p q clients gives w ms e x.0.asked.operation y.0 outcome y.1 (subst (λ k. Became clients w.core.outcomes k outcome) (sym x.2) has)) y.2) is),
          in_contains posts (record { id = x.0.id; error = error_of a.0 n }) (posted x.0.id (error_of a.0 n) a.1),
          a.2,
        ))
        (λ none_. absurd (let z = e.births.unmade o none_ in let is = counts o in omega (arith, z, is, less)))
        (id_of w ms e.births e.tasks o)

    -- and the call has an outcome that shows its id
    advanced_shown : (o n : ℕ) → n < last o → (outcome : Outcome) × (id : ℕ) × Became clients w.core.outcomes o outcome × ShowsId p clients w.core.outcomes fixed (gave_in w.core) orders outcome id
    advanced_shown o n less = ⊎_elim
        (λ x. let y = ended_call p q clients gives w ms e x.0 x.1 in let shown = shows_some x.0 y.0 y.2 in (y.0, shown.0, subst (λ k. Became clients w.core.outcomes k y.0) x.2 y.1, shown.1))
        (λ none_. absurd (let z = e.births.unmade o none_ in let is = counts o in omega (arith, z, is, less)))
        (id_of w ms e.births e.tasks o)
      where
        shows_some : (b : Birth) (outcome : Outcome) → WhyEnded p q clients gives w b outcome → (id : ℕ) × ShowsId p clients w.core.outcomes fixed (gave_in w.core) orders outcome id
        shows_some b (outcomes.Answered id payload attachment) h = (id, refl)
        shows_some b (outcomes.Peer id code) h = (id, refl)
        shows_some b (outcomes.CallFailed id code) h = (id, refl)
        shows_some b other h = absurd h

  -- whoever decided on the error that ended a call, it was posted
  posted_of : (os : List (Rattle.std.specs.Prelude.Option Outcome)) (fixed : Fixed) (gave : ℕ → List ℕ) (orders : ℕ → Order) (last : ℕ → ℕ) (posts : List Post) (decided : ℕ → List Decision) (o : ℕ) (asked : Asked) (id code : ℕ) → FailedByDecision p clients os fixed gave orders last posts decided o asked id code → FailedByPost p clients os fixed gave orders last posts o asked id code
  posted_of os fixed gave orders last posts decided o asked id code why = ⊎_elim (λ expired. inl expired) (λ x. inr (⊎_elim (λ compressed. inl compressed) (λ y. inr (y.0, y.1)) x)) why

-- ## A whole run

module _ (script : List Item) (made : AreMade script) (there : AreThere script) (range : AllByRecursion InRange script) (turns : List Turn) (core : Core) (is : IsRunWithCalls script turns core) where
  -- no call comes to more attempts than its range has
  pub run_few_attempts : (client : ℕ) (t : Task) (asked : Asked) → IsTask (all_tasks script) core.outcomes client t → t.op ≡ ops.Call asked → attempts_of_run script turns core is t.number + 2 ≤ asked.range
  run_few_attempts client t asked at op =
      let h = run_has_story script made there range turns core is in let own = is_task (plan_of script) (id_plan_of script) (all_tasks script) (gave_in core) core.outcomes client t at in
      subst (λ n. n + 2 ≤ asked.range) (run_attempts script made there range turns core is t.number)
      (few_attempts (plan_of script) (id_plan_of script) (all_tasks script) (gave_in core) h.scene h.marks (let s = h.story in s.births) (let s = h.story in s.tasks) (are_numbered script made there range (gave_in core)) client t asked own op
      (let fits : TaskFits (plan_of script) t = in_all (TaskFits (plan_of script)) own.0 (all_of (TaskFits (plan_of script)) (all_tasks script) (let are = made.are in are.fit) client own.0 own.1) t own.2 in
      let call = subst (OpFits (plan_of script)) op fits.1 in call.range_low))

  module _ (closes : ClosesInRun script turns core is) (fixed : Fixed) (orders : ℕ → Order) where
    -- each attempt but the last of a call was given up for an error that was posted for it
    pub run_advanced_by : (client : ℕ) (t : Task) (asked : Asked) → IsTask (all_tasks script) core.outcomes client t → t.op ≡ ops.Call asked → (n : ℕ) → n < attempts_of_run script turns core is t.number
        → AdvancedByPost (plan_of script) (all_tasks script) core.outcomes fixed (gave_in core) orders (posts_of_run script turns core is) t.number n
    run_advanced_by client t asked at op n less = let h = run_has_story script made there range turns core is in let e = run_has_ended script made there range turns core is closes in
        subst (λ (d : Core). AdvancedByPost (plan_of script) (all_tasks script) d.outcomes fixed (gave_in d) orders (posts_of_run script turns core is) t.number n) h.is
        (advanced_by (plan_of script) (id_plan_of script) (all_tasks script) (gave_in core) h.scene h.marks e fixed orders (attempts_of_run script turns core is) (run_attempts script made there range turns core is) (posts_of_run script turns core is) (run_posted script made there range turns core is) t.number n less)

    -- and such a call has an outcome, which shows its id
    pub run_advanced_shown : (client : ℕ) (t : Task) (asked : Asked) → IsTask (all_tasks script) core.outcomes client t → t.op ≡ ops.Call asked → (n : ℕ) → n < attempts_of_run script turns core is t.number
        → (outcome : Outcome) × (id : ℕ) × Became (all_tasks script) core.outcomes t.number outcome × ShowsId (plan_of script) (all_tasks script) core.outcomes fixed (gave_in core) orders outcome id
    run_advanced_shown client t asked at op n less = let h = run_has_story script made there range turns core is in let e = run_has_ended script made there range turns core is closes in
        subst (λ (d : Core). (outcome : Outcome) × (id : ℕ) × Became (all_tasks script) d.outcomes t.number outcome × ShowsId (plan_of script) (all_tasks script) d.outcomes fixed (gave_in d) orders outcome id) h.is
        (advanced_shown (plan_of script) (id_plan_of script) (all_tasks script) (gave_in core) h.scene h.marks e fixed orders (attempts_of_run script turns core is) (run_attempts script made there range turns core is) (posts_of_run script turns core is) (run_posted script made there range turns core is) t.number n less)

    -- a call that failed did so by an `expire`, by a compressed response, or by an error that was posted for its last attempt
    pub run_failed_by : (client : ℕ) (t : Task) (asked : Asked) (id code : ℕ) → IsTask (all_tasks script) core.outcomes client t → t.op ≡ ops.Call asked → Became (all_tasks script) core.outcomes t.number (outcomes.CallFailed id code)
        → FailedByPost (plan_of script) (all_tasks script) core.outcomes fixed (gave_in core) orders (attempts_of_run script turns core is) (posts_of_run script turns core is) t.number asked id code
    run_failed_by client t asked id code at op has = posted_of (plan_of script) (id_plan_of script) (all_tasks script) (gave_in core) core.outcomes fixed (gave_in core) orders (attempts_of_run script turns core is) (posts_of_run script turns core is) (λ j. shown_in_run script turns core is (decided_by j)) t.number asked id code
        (run_failed_decided script made there range turns core is closes fixed orders client t asked id code at op has)
