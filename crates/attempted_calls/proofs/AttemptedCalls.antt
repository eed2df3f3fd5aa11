-- Whose words of calls are known as a run ends has an id of its own, and an outcome that shows it.
use Rattle.std.proofs.Common.{◌≡◌, ◌≢◌, ℕ, ◌<◌, List, get_or, sym, ap, ◌∙◌, subst}
use Rattle.std.specs.Prelude.{Some}
use Rattle.std.specs.List.{AllByRecursion}
use Rattle.sock_words.specs.declared.outcome.Outcome.{Outcome}
use Rattle.sock_words.specs.declared.outcome.Outcome.TheVariants as outcomes
use Rattle.seat_programs.specs.brpc_model.specs.Items.{Item}
use Rattle.seat_programs.specs.brpc_model.specs.Operations.{Turn}
use Rattle.seat_programs.specs.brpc_model.specs.MessageOfLabel.{shown_id}
use Rattle.seat_programs.specs.id_rule.specs.LawfulIdTable.{call_index}
use Rattle.sock_message.specs.Asked.{Asked}
use Rattle.seat_programs.specs.Cores.{Core}
use Rattle.seat_programs.specs.Tasks.{plan_of, id_plan_of}
use Rattle.seat_programs.specs.ScriptSetupToEnding.{all_tasks, IsRunWithCalls}
use Rattle.seat_programs.specs.Explained.{Became}
use Rattle.own_decisions.specs.Below.joint_runs.proofs.RunsOfBothTables.{AreMade}
use Rattle.own_decisions.specs.Below.script_facts.proofs.ReadScriptFacts.{InRange}
use Rattle.own_decisions.specs.Below.script_facts.proofs.Targets.{AreThere}
use Rattle.own_decisions.specs.Below.call_owing.specs.LivesOfLinks.{ClosesInRun}
use Rattle.own_decisions.specs.Below.call_stories.specs.LinkReadingLists.{gave_in}
use Rattle.own_decisions.specs.Below.call_stories.specs.Scenes.{Birth, WhyEnded}
use Rattle.own_decisions.specs.Below.story_steps.proofs.BirthTicks.{one_call}
use Rattle.own_decisions.specs.Below.story_steps.proofs.StoryAtRunEnd.{ended_call}
use Rattle.own_decisions.specs.Below.call_causes.proofs.WholeCallStory.{run_has_story, run_has_ended}
use Rattle.own_decisions.specs.Below.outcome_stories.specs.OperationStories.{In}

-- as the run ends the word of a call is its id
abbrev pub AreStored : (ℕ → ℕ) → (script : List Item) → Core → Type 0
AreStored ids script core = (o : ℕ) → ids o ≢ 0 → (o < (id_plan_of script).operations) × (get_or core.calls.words (call_index (id_plan_of script) o) 0 ≡ ids o)

module _ (script : List Item) (made : AreMade script) (there : AreThere script) (range : AllByRecursion InRange script) (turns : List Turn) (core : Core) (is : IsRunWithCalls script turns core) (ids : ℕ → ℕ) (stored : AreStored ids script core) where
  -- the call with the id
  pub has_id : (o : ℕ) → ids o ≢ 0 → (b : Birth) × In b (run_has_story script made there range turns core is).scene.births × (b.id ≡ ids o) × (b.asked.operation ≡ o)
  has_id o some_ = let h = run_has_story script made there range turns core is in let s = stored o some_ in
      let same : get_or h.scene.core.calls.words (call_index (id_plan_of script) o) 0 ≡ ids o = ap (λ (d : Core). get_or d.calls.words (call_index (id_plan_of script) o) 0) h.is ∙ s.1 in
      let c = h.story.tasks.called o s.0 (λ z. some_ (sym same ∙ z)) in (c.0, c.1, c.2 ∙ same, c.3)

  -- no two calls have one id
  pub single : (o x : ℕ) → ids o ≢ 0 → ids o ≡ ids x → o ≡ x
  single o x some_ same = let h = run_has_story script made there range turns core is in let a = has_id o some_ in let b = has_id x (λ z. some_ (same ∙ z)) in
      let one : a.0.asked ≡ b.0.asked = one_call h.scene.births h.story.births.apart (λ c there. (h.story.births.born c there).1) a.0.id a.0.asked b.0.asked a.1
      (subst (λ i. In (record { id = i; asked = b.0.asked }) h.scene.births) (b.2 ∙ (sym same ∙ sym a.2)) b.1) in
      sym a.3 ∙ (ap (λ (c : Asked). c.operation) one ∙ b.3)

  module _ (closes : ClosesInRun script turns core is) where
    -- and its outcome shows it
    pub shows : (o : ℕ) → ids o ≢ 0 → (x : Outcome) × Became (all_tasks script) core.outcomes o x × (shown_id x ≡ Some (ids o))
    shows o some_ = let h = run_has_story script made there range turns core is in let b = has_id o some_ in
        let e = ended_call (plan_of script) (id_plan_of script) (all_tasks script) (gave_in core) h.scene h.marks (run_has_ended script made there range turns core is closes) b.0 b.1 in (
          e.0,
          subst (λ n. Became (all_tasks script) core.outcomes n e.0) b.3 (subst (λ (d : Core). Became (all_tasks script) d.outcomes b.0.asked.operation e.0) h.is e.1),
          by_why b.0 e.0 e.2 ∙ ap (λ i. Some i) b.2,
        )
      where
        by_why : (b : Birth) (x : Outcome) → WhyEnded (plan_of script) (id_plan_of script) (all_tasks script) (gave_in core) (run_has_story script made there range turns core is).scene b x → shown_id x ≡ Some b.id
        by_why b (outcomes.Answered id payload attachment) why = ap (λ i. Some i) why.0
        by_why b (outcomes.Peer id code) why = ap (λ i. Some i) why.0
        by_why b (outcomes.CallFailed id code) why = ap (λ i. Some i) why.0
        by_why b other why = absurd why
