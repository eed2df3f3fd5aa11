-- What each link accepted in a whole run of a script with calls.
use Rattle.std.proofs.Common.{◌≡◌, ℕ, ◌<◌, List, length, sym, ap, ◌∙◌, subst}
use Rattle.std.specs.List.{AllByRecursion}
use Rattle.seat_programs.specs.brpc_model.specs.Items.{Item}
use Rattle.seat_programs.specs.brpc_model.specs.Operations.{Turn}
use Rattle.sock_message.specs.Asked.{Asked, name_of}
use Rattle.seat_programs.specs.declared.task.Op.TheVariants as ops
use Rattle.seat_programs.specs.declared.task.Task.{Task}
use Rattle.seat_programs.specs.Cores.{Core}
use Rattle.seat_programs.specs.Tasks.{opens, plan_of, id_plan_of}
use Rattle.seat_programs.specs.ScriptSetupToEnding.{all_tasks, IsRunWithCalls}
use Rattle.seat_programs.specs.Explained.{IsTask, Made}
use Rattle.seat_programs.specs.ExplainedCalls.{Accepted, Fixed, IsSent}
use Rattle.own_decisions.specs.Below.programs_allowed.specs.program_walks.proofs.WholeScriptSound.{views_ended, ended_sound, end_rests}
use Rattle.own_decisions.specs.Below.outcome_stories.specs.StoryStepCauses.{Asks}
use Rattle.own_decisions.specs.Below.outcome_stories.specs.KeptStory.{IsSpoken}
use Rattle.own_decisions.specs.Below.outcome_stories.specs.PlainTasks.{told_tasks_of}
use Rattle.own_decisions.specs.Below.outcome_ticks.proofs.Lifted.{made_up}
use Rattle.own_decisions.specs.Below.outcome_stories.proofs.Members.{contains_in}
use Rattle.own_decisions.specs.Below.outcome_ticks.proofs.TableTasksDistinct.{one_task}
use Rattle.own_decisions.specs.Below.joint_runs.proofs.RunsOfBothTables.{AreMade}
use Rattle.own_decisions.specs.Below.script_facts.proofs.ReadScriptFacts.{InRange}
use Rattle.own_decisions.specs.Below.script_facts.proofs.Targets.{AreThere}
use Rattle.own_decisions.specs.Below.call_owing.specs.LivesOfLinks.{ClosesInRun}
use Rattle.own_decisions.specs.Below.owed_calls.proofs.OwedCallsAreEnded.{run_all_rest}
use Rattle.own_decisions.specs.Below.call_stories.specs.LinkReadingLists.{attempts_of_run}
use Rattle.own_decisions.specs.accept_counts.proofs.Apart as apart
use Rattle.own_decisions.specs.accept_counts.specs.EndedCalls.{stores_of_run}
use Rattle.own_decisions.specs.accept_counts.proofs.RunsKeepAttemptLaw.{AreLabelledIn, IsCallOf, end_law}
use Rattle.own_decisions.specs.sent_once.proofs.SocketOperationsTold.{owed, orders_of_run, narrow, opening_bare}
use Rattle.attempted_calls.proofs.AttemptedIds.{AreRisingIn}
use Rattle.attempted_calls.proofs.AttemptedCalls.{AreStored}
use Rattle.attempted_calls.proofs.AttemptedSent.{IsNamedOn, run_attempted}
use Rattle.attempted_calls.proofs.EndedNamed.{tasks_are, end_named}
use Rattle.attempted_calls.proofs.EndedLives.{all_named}
use Rattle.attempted_calls.proofs.AttemptedStored.{ids_at, stored_run, words_stored}
use Rattle.own_decisions.specs.accept_counts.proofs.Grounds.{setting, grounds}
use Rattle.own_decisions.specs.Below.script_facts.proofs.FilteredLists.{all_map}
use Rattle.own_decisions.specs.Below.owned_ids.proofs.OpensStored.{place_at}

module _ (script : List Item) (made : AreMade script) (there : AreThere script) (range : AllByRecursion InRange script) (turns : List Turn) (core : Core) (is : IsRunWithCalls script turns core) (closes : ClosesInRun script turns core is)
    (ids : ℕ → ℕ) (labelled : AreLabelledIn ids script turns core is) where
  open setting script use {vs}
  open grounds script made turns core is use {begins, goes, fits}

  -- the call of an operation is its task's
  pub one_asked : (a b : Asked) → IsCallOf script a → (c : ℕ) (t : Task) → IsTask (all_tasks script) core.outcomes c t → t.op ≡ ops.Call b → a.operation ≡ t.number → a ≡ b
  one_asked a b of c t it op number = let asks : Asks (all_tasks script) c t = (it.0, it.1, contains_in it.0 t it.2) in
      let same = (one_task (plan_of script) (all_tasks script) made.are of.0 c of.2 t (of.1, place_at (all_tasks script) of.0 of.1 of.3, of.4) asks (sym of.6 ∙ number)).1 in
      let two : ops.Call a ≡ ops.Call b = sym of.5 ∙ (ap (λ (x : Task). x.op) same ∙ op) in cc

  -- the link of each attempt is that of a life of its name
  pub run_named : (k : ℕ) → k < (plan_of script).links → AllByRecursion (λ (a : Accepted). IsSpoken (told_tasks_of script) a.operation → IsNamedOn script core k a) (orders_of_run script made turns core is closes k).accepted
  run_named k low = let n = narrow script made turns core is closes in let k' = (end_named script made.are vs begins goes turns core is fits n (opening_bare script) ids labelled).named in
      let law = end_law script made.are vs begins goes turns core is fits n (opening_bare script) ids labelled in
      let sound = ended_sound script made.are vs begins goes turns core is fits in let rests = end_rests script made.are vs begins goes turns core is fits (owed script made turns core is closes) in
      let tasks = tasks_are script made.are vs begins goes turns core is fits n (opening_bare script) ids labelled in
      all_map (λ (a : Accepted). IsSpoken (told_tasks_of script) a.operation → (asked : Asked) × IsCallOf script asked × (asked.operation ≡ a.operation) × (slot version : ℕ) × Made (told_tasks_of script) core.outcomes (name_of asked a.attempt) k slot version)
      (λ (a : Accepted). IsSpoken (told_tasks_of script) a.operation → IsNamedOn script core k a)
      (λ a has spoken c t asked it number op. let x = has spoken in let same = one_asked x.0 asked x.1 c t it op (x.2 ∙ sym number) in
      (x.3, x.4, made_up (all_tasks script) (length (opens script)) core.outcomes (name_of asked a.attempt) k x.3 x.4 (subst (λ (z : Asked). Made (told_tasks_of script) core.outcomes (name_of z a.attempt) k x.3 x.4) same x.5)))
      (orders_of_run script made turns core is closes k).accepted
      (all_named (plan_of script) (told_tasks_of script) tasks core (views_ended script turns core is vs) k'.events k'.lost_links sound k'.story rests (IsCallOf script) (stores_of_run script turns core is) k'.trails k'.law ids
      (λ i n e h not_. (let f = apart.of_call_fits (plan_of script) (id_plan_of script) (IsCallOf script) ids (told_tasks_of script) tasks core (views_ended script turns core is vs) k'.events k'.lost_links sound k'.story rests law.0 law.1 i n e h not_ in (f.0, f.1))) k)

  module _ (rising : AreRisingIn ids script turns core is) (stored : AreStored ids script core) (fixed : Fixed) (gave : ℕ → List ℕ) where
    -- each message that a link accepted is that of a `send` of which nothing is said, or of an attempt that was made of a call with an id, to a name of the link's socket
    pub run_all_sent : (k : ℕ) → k < (plan_of script).links → AllByRecursion (IsSent (plan_of script) (all_tasks script) core.outcomes fixed gave (orders_of_run script made turns core is closes) (attempts_of_run script turns core is) k) (orders_of_run script made turns core is closes k).accepted
    run_all_sent = run_attempted script made there range turns core is closes ids labelled rising stored run_named fixed gave

module _ (script : List Item) (made : AreMade script) (there : AreThere script) (range : AllByRecursion InRange script) (turns : List Turn) (core : Core) (is : IsRunWithCalls script turns core) (closes : ClosesInRun script turns core is) (fixed : Fixed) (gave : ℕ → List ℕ) where
  -- each message that a link accepted is that of a `send` of which nothing is said, or of an attempt that was made of a call with an id, to a name of the link's socket
  pub attempted_of_run : (k : ℕ) → k < (plan_of script).links
      → AllByRecursion (λ (a : Accepted). IsSent (plan_of script) (all_tasks script) core.outcomes fixed gave (orders_of_run script made turns core is closes) (attempts_of_run script turns core is) k a) (orders_of_run script made turns core is closes k).accepted
  attempted_of_run k low = let s = stored_run script made there range turns core is (run_all_rest script made turns core is closes) in
      run_all_sent script made there range turns core is closes (ids_at script core) s.0 s.1 (words_stored script made there range turns core is) fixed gave k low
