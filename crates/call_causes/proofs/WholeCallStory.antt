-- In a whole run of a script with calls the story of the calls has ended, so that each task on calls is told.
use Rattle.std.proofs.Common.{◌≡◌, ℕ, List, [], length, get_or, sym, ap, ◌∙◌, subst, arith}
use Rattle.std.proofs.lemmas.List.{append-nil}
use Rattle.std.specs.List.{AllByRecursion}
use Rattle.seat_programs.specs.brpc_model.specs.Items.{Item}
use Rattle.seat_programs.specs.brpc_model.specs.Operations.{Turn}
use Rattle.corr_core.specs.IdSlotWord.{parts}
use Rattle.seat_programs.specs.id_rule.specs.LawfulIdTable.{id_index}
use Rattle.seat_programs.specs.Cores.{Core}
use Rattle.seat_programs.specs.declared.task.Op.{Op}
use Rattle.seat_programs.specs.declared.task.Op.TheVariants as ops
use Rattle.seat_programs.specs.Tasks.{plan_of, id_plan_of}
use Rattle.seat_programs.specs.ScriptSetupToEnding.{all_tasks, IsRunWithCalls}
use Rattle.seat_programs.specs.ExplainedCalls.{Fixed, Order}
use Rattle.story_ticks.specs.Below.programs_allowed.specs.program_steps.specs.SoundSeats.{AllRest}
use Rattle.story_ticks.specs.Below.outcome_stories.specs.Facts.{Seeks, CallsFoundNone, shown_in_run}
use Rattle.story_ticks.specs.Below.joint_runs.proofs.RunsOfBothTables.{AreMade}
use Rattle.story_ticks.specs.Below.call_owing.specs.Below.script_facts.proofs.ReadScriptFacts.{InRange}
use Rattle.story_ticks.specs.Below.call_owing.specs.Below.script_facts.proofs.Targets.{AreThere}
use Rattle.story_ticks.specs.Below.call_owing.specs.LivesOfLinks.{ClosesInRun}
use Rattle.story_ticks.specs.Below.owed_calls.proofs.OwedCallsAreEnded.{run_all_ended, run_all_rest}
use Rattle.story_ticks.specs.call_stories.specs.LinkReadingLists.{gave_in, times, attempts_of_run}
use Rattle.story_ticks.specs.call_stories.specs.Target.{ToldOnCallsInPart}
use Rattle.story_ticks.specs.call_stories.specs.PostsOfRun.{Post, posts_of_run}
use Rattle.story_ticks.specs.call_stories.specs.Decided.{Decision, decided_at}
use Rattle.story_ticks.specs.call_stories.specs.Scenes.{WasPosted, SeeksName, LeadsTo}
use Rattle.story_ticks.specs.call_stories.specs.CallStories.{HasStory}
use Rattle.story_ticks.specs.story_steps.proofs.StoryAtRunEnd.{HasEnded, told, versions}
use Rattle.call_causes.proofs.CallWhys.{names_found_none, why}
use Rattle.call_causes.proofs.ExpiredOnce.{expired_once}
use Rattle.story_ticks.proofs.ScriptTasksFitStory.{are_numbered, are_ascending, have_slots, begins}
use Rattle.call_causes.proofs.RunOfCallStory.{run_told}
use Rattle.story_ticks.proofs.RunFacts.{run_facts}
use Rattle.story_ticks.proofs.StoryOver.{has_ended}
use Rattle.story_ticks.specs.Below.outcome_stories.specs.OperationStories.{In}

seeks_name : (n : ℕ) (op : Op) → Seeks n op → SeeksName n op
seeks_name n (ops.Open m k) s = absurd s
seeks_name n (ops.Expire t) s = absurd s
seeks_name n (ops.Join t) s = absurd s
seeks_name n (ops.Drop m) s = absurd s
seeks_name n _ s = s

module _ (script : List Item) (made : AreMade script) (there : AreThere script) (range : AllByRecursion InRange script) (turns : List Turn) (core : Core) (is : IsRunWithCalls script turns core) where
  abbrev gives : ℕ → List ℕ
  gives = gave_in core

  leads : LeadsTo (plan_of script) (id_plan_of script) (all_tasks script) (gave_in core) core
  leads k = ([], append-nil (gave_in core k))

  -- with the errors that ids took, and the calls whose attempts were advanced, each the latest first, and with the errors on which seats decided
  pub run_tale : (s : (ps : List Post) × (ns : List ℕ) × HasStory (plan_of script) (id_plan_of script) (all_tasks script) (gave_in core) ps ns core × ((x : Post) → In x ps → In x (posts_of_run script turns core is)) × ((o : ℕ) → times o ns ≡ attempts_of_run script turns core is o)) × ((d : Decision) → In d s.2.scene.decisions → In d (shown_in_run script turns core is decided_at))
  run_tale = run_told script made (gave_in core) (are_numbered script made there range (gave_in core)) (have_slots script made there range (gave_in core)) (begins script made there range (gave_in core)) turns core is leads

  -- whatever the schedule, the story of the calls goes on up to the end of the run
  pub run_has_story : HasStory (plan_of script) (id_plan_of script) (all_tasks script) (gave_in core) run_tale.0.0 run_tale.0.1 core
  run_has_story = run_tale.0.2

  -- the number of the last attempt of each call is how often it was advanced
  pub run_attempts : (o : ℕ) → times o run_has_story.scene.advances ≡ attempts_of_run script turns core is o
  run_attempts o = ap (times o) run_has_story.shown ∙ run_tale.0.4 o

  -- each error that the story shows an id took in the run
  pub run_posted : (id error : ℕ) → WasPosted run_has_story.scene id error → In (record { id = id; error = error }) (posts_of_run script turns core is)
  run_posted id error there = run_tale.0.3 (record { id = id; error = error }) (subst (In (record { id = id; error = error })) run_has_story.shown_posts there)

  -- and on each error of which it shows a decision a seat decided in the run
  pub run_decided : (d : Decision) → In d run_has_story.scene.decisions → In d (shown_in_run script turns core is decided_at)
  unfolding run_has_story
  run_decided d there = run_tale.1 d there

  module _ (closes : ClosesInRun script turns core is) where
    -- and has ended there, where a link answers that it is closed only where its writing half is finished
    pub run_has_ended : HasEnded (plan_of script) (id_plan_of script) (all_tasks script) (gave_in core) run_has_story.scene run_has_story.marks
    run_has_ended = let h = run_has_story in has_ended (plan_of script) (id_plan_of script) (all_tasks script) (gave_in core) h.scene h.marks h.story
        (subst AllRest (sym h.is) (run_all_rest script made turns core is closes))
        (λ i inside. subst (λ (d : Core). (parts (get_or d.calls.words (id_index i) 0)).state ≡ 0) (sym h.is) (run_all_ended script made turns core is closes i inside))
        (let r = run_facts script made turns core is in let many = ap (λ (d : Core). length d.seats) h.is ∙ r.many_seats in let seats = made.seats in let few = made.few_clients in omega (arith, many, seats, few))

    -- where an operation found a name without a socket, the calls of its client before it found so too
    pub run_found_none : CallsFoundNone (all_tasks script) core.outcomes
    run_found_none = let h = run_has_story in subst (λ (d : Core). CallsFoundNone (all_tasks script) d.outcomes) h.is
        (λ c t u asked n is us sought has low op name. names_found_none (plan_of script) (id_plan_of script) (all_tasks script) (gave_in core) (are_ascending script made there range (gave_in core)) h.scene h.marks run_has_ended c t u n is us (seeks_name n t.op sought) has low (subst (SeeksName n) (sym op) name))

    module _ (fixed : Fixed) (orders : ℕ → Order) where
      -- each `call`, `expire` and `join` has an outcome and its cause; of a call that failed only so much is told as shows without its sockets
      pub run_told_in_part : ToldOnCallsInPart (plan_of script) (all_tasks script) core.outcomes fixed (gave_in core) orders (attempts_of_run script turns core is)
      run_told_in_part = let h = run_has_story in let e = run_has_ended in subst (λ (d : Core). ToldOnCallsInPart (plan_of script) (all_tasks script) d.outcomes fixed (gave_in d) orders (attempts_of_run script turns core is)) h.is (record {
        told = told (plan_of script) (id_plan_of script) (all_tasks script) (gave_in core) h.scene h.marks e;
        why = why (plan_of script) (id_plan_of script) (all_tasks script) (gave_in core) (are_ascending script made there range (gave_in core)) h.scene h.marks e fixed orders (λ k. ap (λ (d : Core). gave_in d k) h.is) (attempts_of_run script turns core is) run_attempts;
        expired_once = expired_once (plan_of script) (id_plan_of script) (all_tasks script) (gave_in core) (are_ascending script made there range (gave_in core)) h.scene h.marks e;
        versions = versions (plan_of script) (id_plan_of script) (all_tasks script) (gave_in core) h.scene h.marks e;
      })
