-- In a whole run with calls the orders of the links are those that the place words and the links at home show.
use Rattle.std.proofs.Common.{◌≡◌, ℕ, ◌<◌, ◌≤◌, ◌⊎◌, inl, inr, List, [], ◌∷◌, length, sym, ◌∙◌, subst, arith}
use Rattle.std.specs.List.{AllByRecursion}
use mathlib.Core.Option.{some}
use lib.ListN.{get_elem?}
use Rattle.sock_words.specs.declared.plain.Plan.{Plan}
use Rattle.sock_model.specs.declared.view.View.{View}
use Rattle.seat_programs.specs.brpc_model.specs.Items.{Item}
use Rattle.seat_programs.specs.brpc_model.specs.Operations.{Turn}
use Rattle.seat_programs.specs.Cores.{Core}
use Rattle.seat_programs.specs.Tasks.{opens, plan_of, id_plan_of}
use Rattle.seat_programs.specs.ScriptSetupToEnding.{all_tasks, IsRunWithCalls}
use Rattle.seat_programs.specs.Explained.{AreTasks}
use Rattle.seat_programs.specs.ExplainedCalls.{Accepted, Fixed, AreOrders, IsSent, OfSend}
use Rattle.accept_counts.specs.Below.programs_allowed.specs.program_steps.specs.ProgramGoesOn.{GoesOn, HasNothing}
use Rattle.accept_counts.specs.Below.programs_allowed.specs.program_steps.specs.SoundSeats.{Sound, AllRest}
use Rattle.accept_counts.specs.Below.programs_allowed.specs.sock_runs.proofs.LinkTicks.{RetriesGo}
use Rattle.accept_counts.specs.Below.programs_allowed.specs.program_walks.proofs.WholeScriptSound.{Begins, AreFittingIn, IsOwed, views_ended, ended_sound, end_rests, all_homes}
use Rattle.accept_counts.specs.Below.outcome_stories.specs.PlainTasks.{told_tasks_of}
use Rattle.accept_counts.specs.Below.outcome_stories.proofs.Delivered.{AreQuiet}
use Rattle.accept_counts.specs.Below.outcome_causes.proofs.Final.{at_there}
use Rattle.accept_counts.specs.Below.outcome_causes.proofs.SocketCausesOfScripts.{seats, final_told, story_end, orders, run_told}
use Rattle.accept_counts.specs.Below.outcome_stories.specs.StoryStepCauses.{Asks}
use Rattle.accept_counts.specs.Below.outcome_stories.specs.KeptStory.{IsSpoken}
use Rattle.accept_counts.specs.Below.outcome_stories.specs.TaskCauses as causes
use Rattle.accept_counts.specs.Below.outcome_ticks.proofs.Lifted.{task_up, made_up}
use Rattle.accept_counts.specs.Below.outcome_stories.proofs.Members.{in_contains}
use Rattle.sock_message.specs.Asked.{Asked, frame_of}
use Rattle.seat_programs.specs.declared.task.Task.{Task}
use Rattle.accept_counts.specs.SentFrameOfAttempt.{IsAttempt}
use Rattle.accept_counts.proofs.RunsKeepAttemptLaw.{AreLabelledIn, IsCallOf, end_law}
use Rattle.accept_counts.proofs.Apart as apart
use Rattle.corr_core.proofs.NoteSums.{at_length}
use Rattle.accept_counts.specs.Below.owned_ids.proofs.OpensStored.{place_at}

-- no seat writes a link where none has anything left to do
pub quiet_there : (p : Plan) (c : Core) (vs : List View) → Sound p c vs → AllRest c → AreQuiet vs
quiet_there p c vs sound settled i v at = let seat = at_there c.seats i (omega (arith, at_length vs i v at, sound.each)) in
    let n : HasNothing v = subst (GoesOn p v) (settled i seat.0 seat.1) (sound.seats i seat.0 v seat.1 at).goes_on in n.quiet

both : {A : Type 0} (P Q R : A → Type 0) → ((x : A) → P x → Q x → R x) → (xs : List A) → AllByRecursion P xs → AllByRecursion Q xs → AllByRecursion R xs
both P Q R f [] a b = tt
both P Q R f (x ∷ xs) a b = (f x a.0 b.0, both P Q R f xs a.1 b.1)

module _ (script : List Item) (are : AreTasks (plan_of script) (all_tasks script)) (vs : List View) (begins : Begins script vs) (fresh : (i : ℕ) (v : View) → get_elem? vs i ≡ some v → v.lists ≡ [] ∷ []) (go : RetriesGo (plan_of script))
    (turns : List Turn) (core : Core) (is : IsRunWithCalls script turns core) (fitting : AreFittingIn script turns core is) (owed : IsOwed script turns core is) (narrow : (id_plan_of script).slots ≤ 65536)
    (bare : (i : ℕ) (v : View) → get_elem? vs i ≡ some v → v.claims ≡ []) (ids : ℕ → ℕ) (labelled : AreLabelledIn ids script turns core is) where
  -- whatever the schedule, each attempt of a call and each `send` is accepted once at most, and the place words tell where
  pub run_orders : AreOrders (plan_of script) core (orders script are vs begins fresh go turns core is fitting owed)
  run_orders = let law = end_law script are vs begins go turns core is fitting narrow (λ i v e. (bare i v e, fresh i v e)) ids labelled in
      let sound = ended_sound script are vs begins go turns core is fitting in let rests = end_rests script are vs begins go turns core is fitting owed in
      apart.are_orders (plan_of script) (id_plan_of script) (IsCallOf script) ids (told_tasks_of script) (seats script are vs begins fresh go turns core is fitting) core (views_ended script turns core is vs)
      (final_told script are vs begins fresh go turns core is fitting).after.events (final_told script are vs begins fresh go turns core is fitting).after.lost sound
      (story_end script are vs begins fresh go turns core is fitting owed) rests law.0 law.1
      (quiet_there (plan_of script) core (views_ended script turns core is vs) sound rests) (all_homes script are vs begins go turns core is fitting owed)

  -- and each message is that of a `send` of which nothing is said, to a name of the link's socket, or the frame of an attempt of a call
  module _ (fixed : Fixed) (gave : ℕ → List ℕ) (last : ℕ → ℕ) where
    pub run_sent : (k : ℕ) → k < (plan_of script).links → AllByRecursion (λ (a : Accepted). IsSent (plan_of script) (all_tasks script) core.outcomes fixed gave (orders script are vs begins fresh go turns core is fitting owed) last k a ⊎ IsAttempt ids (all_tasks script) core.outcomes a)
        (orders script are vs begins fresh go turns core is fitting owed k).accepted
    run_sent k low = let law = end_law script are vs begins go turns core is fitting narrow (λ i v e. (bare i v e, fresh i v e)) ids labelled in
        let sound = ended_sound script are vs begins go turns core is fitting in let rests = end_rests script are vs begins go turns core is fitting owed in
        let tells = run_told script are vs begins fresh go turns core is fitting owed in
        both _ _ (λ (a : Accepted). IsSent (plan_of script) (all_tasks script) core.outcomes fixed gave (orders script are vs begins fresh go turns core is fitting owed) last k a ⊎ IsAttempt ids (all_tasks script) core.outcomes a) lift
        (orders script are vs begins fresh go turns core is fitting owed k).accepted (tells.sent k low)
        (apart.all_kinds (plan_of script) (id_plan_of script) (IsCallOf script) ids (told_tasks_of script) (seats script are vs begins fresh go turns core is fitting) core (views_ended script turns core is vs)
        (final_told script are vs begins fresh go turns core is fitting).after.events (final_told script are vs begins fresh go turns core is fitting).after.lost sound
        (story_end script are vs begins fresh go turns core is fitting owed) rests law.0 law.1 k)
      where
        lift : (a : Accepted) → causes.IsSent (told_tasks_of script) core.outcomes k a ⊎ IsSpoken (told_tasks_of script) a.operation
            → ((asked : Asked) × IsCallOf script asked × (asked.operation ≡ a.operation) × (a.attempt ≤ 6) × (a.bytes ≡ frame_of asked (ids a.operation) a.attempt)) ⊎ ((d : ℕ) × (t : Task) × Asks (told_tasks_of script) d t × (t.number ≡ a.operation))
            → IsSent (plan_of script) (all_tasks script) core.outcomes fixed gave (orders script are vs begins fresh go turns core is fitting owed) last k a ⊎ IsAttempt ids (all_tasks script) core.outcomes a
        lift a (inl s) other = inl (OfSend s.client s.task s.name s.slot s.version (task_up (all_tasks script) (length (opens script)) core.outcomes s.client s.task s.is) s.numbered s.op s.first
            (made_up (all_tasks script) (length (opens script)) core.outcomes s.name k s.slot s.version s.life) s.untold)
        lift a (inr spoken) (inr t) = absurd (spoken t.0 t.1 t.2 t.3)
        lift a (inr spoken) (inl x) = let w = x.1 in inr (record {
          client = w.0;
          task = w.2;
          is = (w.1, place_at (all_tasks script) w.0 w.1 w.3, in_contains w.1 w.2 w.4);
          numbered = sym w.6 ∙ x.2;
          asked = x.0;
          op = w.5;
          few = x.3;
          frame = x.4;
        })
