-- The word of the `open` of a link that became a socket's is that of its life.
use Rattle.std.proofs.Common.{◌≡◌, ◌≢◌, ℕ, ◌+◌, ◌*◌, ◌<◌, true, List, length, get_or, sym, ap, ◌∙◌, subst, arith}
use Rattle.std.specs.Prelude.{Some}
use Rattle.std.specs.List.{AllByRecursion}
use mathlib.Core.Option.{some, some-injective}
use lib.ListN.{get_elem?}
use Rattle.sock_words.specs.PackedWords.{socket_id, socket_id_slot, socket_id_version, NO_SOCKET}
use Rattle.sock_words.specs.declared.outcome.Outcome.TheVariants.{Opened}
use Rattle.sock_model.specs.SocketTableLayout.{open_index}
use Rattle.brpc_model.specs.Items.{Item}
use Rattle.brpc_model.specs.Operations.{Turn}
use Rattle.calm_runs.specs.send_causes.specs.Below.script_facts.proofs.ReadScriptFacts.{InRange}
use Rattle.calm_runs.specs.send_causes.specs.Below.script_facts.proofs.Targets.{AreThere}
use Rattle.seat_programs.specs.declared.task.Op.TheVariants as ops
use Rattle.seat_programs.specs.TableSteps.{OnSlot, CreateLife}
use Rattle.seat_programs.specs.Cores.{Core}
use Rattle.seat_programs.specs.Tasks.{opens, plan_of}
use Rattle.seat_programs.specs.Explained.{Made}
use Rattle.seat_programs.specs.ScriptSetupToEnding.{all_tasks, IsRunWithCalls}
use Rattle.calm_runs.specs.send_causes.specs.Below.programs_allowed.specs.program_walks.proofs.WholeScriptSound.{views_ended, ended_sound}
use Rattle.calm_runs.specs.send_causes.specs.Below.outcome_stories.specs.StoryStepCauses.{Asks, WasGiven}
use Rattle.calm_runs.specs.send_causes.specs.Below.outcome_stories.specs.Explains.{step, Because, IsExplainedBy}
use Rattle.calm_runs.specs.send_causes.specs.Below.outcome_stories.specs.PlainTasks.{told_tasks_of}
use Rattle.calm_runs.specs.send_causes.specs.Below.outcome_stories.specs.OperationStories.{trace_of}
use Rattle.calm_runs.specs.send_causes.specs.Below.outcome_ticks.proofs.EventsOfGoodStory.{given_by}
use Rattle.calm_runs.specs.send_causes.specs.Below.outcome_causes.proofs.Final.{Final, final}
use Rattle.calm_runs.specs.send_causes.specs.Below.outcome_ticks.proofs.Lifted.{made_down}
use Rattle.calm_runs.specs.send_causes.specs.Below.outcome_stories.proofs.Members.{contains_in, from_trace}
use Rattle.calm_runs.specs.send_causes.specs.Below.outcome_causes.proofs.ExplainedOpenings.{are_seats}
use Rattle.calm_runs.specs.send_causes.specs.Below.joint_runs.proofs.RunsOfBothTables.{AreMade, first_views}
use Rattle.calm_runs.specs.send_causes.specs.Below.call_owing.specs.LivesOfLinks.{ClosesInRun}
use Rattle.calm_runs.specs.send_causes.specs.Below.owed_calls.proofs.OwedCallsAreEnded.{run_all_rest}
use Rattle.calm_runs.specs.send_causes.specs.Below.attempted_calls.proofs.AttemptedStored.{ids_at}
use Rattle.calm_runs.specs.send_causes.proofs.DropEndsCauses.{own_link}
use Rattle.calm_runs.specs.send_causes.specs.Below.dropped_calls.proofs.DropOfRun.{EndStory, IsOpened, ends, given_opened}
use Rattle.calm_runs.specs.send_causes.specs.Below.accept_counts.proofs.EarlyClosedSockets.{start, go, fitting}
use Rattle.calm_runs.specs.send_causes.proofs.OwnIds.{labelled_at}

module _ (script : List Item) (made : AreMade script) (there : AreThere script) (range : AllByRecursion InRange script) (turns : List Turn) (core : Core) (is : IsRunWithCalls script turns core) (closes : ClosesInRun script turns core is) where
  -- the story of the run
  abbrev story : EndStory script made turns core is closes (ids_at script core) (labelled_at script made there range turns core is closes)
  story = ends script made turns core is closes (ids_at script core) (labelled_at script made there range turns core is closes)

  module _ (n k slot version : ℕ) (life : Made (all_tasks script) core.outcomes n k slot version) where
    abbrev told : Made (told_tasks_of script) core.outcomes n k slot version
    told = made_down (all_tasks script) (length (opens script)) core.outcomes n k slot version life

    asks : Asks (told_tasks_of script) told.client told.task
    asks = (let i = told.is in (i.0, i.1, contains_in i.0 told.task i.2))

    given : WasGiven story.events slot version k
    given = given_by story.events told.client told.task.number b.1 slot version k (from_trace told.client told.task.number story.events (step (OnSlot (CreateLife slot k)) b.1) b.3) (sym b.4)
      where
        f : Final (plan_of script).slots (plan_of script).requests (told_tasks_of script) story.events core.outcomes told.client told.task
        f = final (plan_of script) (told_tasks_of script) (are_seats (plan_of script) (all_tasks script) made.are (length (opens script))) true core (views_ended script turns core is (first_views script)) story.events story.lost
            (ended_sound script made.are (first_views script) (start script made turns core is) (go script made turns core is) turns core is (fitting script made turns core is)) story.story (run_all_rest script made turns core is closes) told.client told.task asks

        same : f.outcome ≡ Some (Opened slot version k)
        same = let z : Some f.outcome ≡ Some (Some (Opened slot version k)) = sym f.became ∙ told.became in cc

        x : IsExplainedBy (plan_of script).slots (plan_of script).requests f.before (trace_of told.client told.task.number story.events) told.task.op (Some (Opened slot version k))
        x = subst (IsExplainedBy (plan_of script).slots (plan_of script).requests f.before (trace_of told.client told.task.number story.events) told.task.op) same f.explained

        b : Because (plan_of script).slots (plan_of script).requests f.before (trace_of told.client told.task.number story.events) (ops.Open n k) (Opened slot version k)
        b = subst (λ z. Because (plan_of script).slots (plan_of script).requests f.before (trace_of told.client told.task.number story.events) z (Opened slot version k)) told.op x.0

    opened_life : IsOpened script made turns core is closes (ids_at script core) (labelled_at script made there range turns core is closes) slot version
    opened_life = given_opened script made turns core is closes (ids_at script core) (labelled_at script made there range turns core is closes) slot version k given

    few : slot < 4294967296
    few = let y = opened_life in let s = y.inside in let m = made.limits in let l = m.slots in omega (arith, s, l)

    socket : get_or core.words (open_index (plan_of script) opened_life.operation) 0 ≢ NO_SOCKET
    socket e = let y = opened_life in let w : version * 4294967296 + slot + 1 ≡ 18446744073709551615 = sym y.word ∙ e in let low = y.low in let s = few in omega (arith, w, low, s)

    own : opened_life.link ≡ k
    own = let y = opened_life in own_link script made turns core is closes (ids_at script core) (labelled_at script made there range turns core is closes) y.link y.operation (socket_id version slot) slot version k y.at y.word socket
        (let s = few in let z : slot ≡ socket_id_slot (version * 4294967296 + slot) = omega (arith, s) in z) (let s = few in let z : version ≡ socket_id_version (version * 4294967296 + slot) = omega (arith, s) in z) given

    -- the `open` of the link found a socket
    pub opened_word : (o : ℕ) → get_elem? (opens script) k ≡ some o → get_or core.words (open_index (plan_of script) o) 0 ≢ NO_SOCKET
    opened_word o at e = let y = opened_life in socket (ap (λ z. get_or core.words (open_index (plan_of script) z) 0) (some-injective y.operation o (sym y.at ∙ (ap (get_elem? (opens script)) own ∙ at))) ∙ e)
