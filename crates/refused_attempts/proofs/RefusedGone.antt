-- An attempt of which nothing is left stands in no order.
use Rattle.std.proofs.Common.{◌≡◌, ℕ, zero, suc, ◌+◌, Bool, true, false, List, [], ◌∷◌, length, refl, sym, ap, ◌∙◌, subst, arith}
use Rattle.std.proofs.lemmas.Bool.{true≢false}
use Rattle.std.specs.Prelude.{Some, slice_get}
use Rattle.std.specs.List.{AllByRecursion}
use Rattle.sock_model.specs.declared.chain.Entry.{Entry}
use Rattle.sock_model.specs.declared.view.View.{View}
use Rattle.attempted_calls.specs.Below.slot_steps.proofs.SlotWeightSums.{term_le}
use Rattle.seat_programs.specs.brpc_model.specs.Items.{Item}
use Rattle.seat_programs.specs.brpc_model.specs.Operations.{Turn}
use Rattle.sock_message.specs.Asked.{Asked}
use Rattle.seat_programs.specs.declared.task.Task.{Task}
use Rattle.seat_programs.specs.Cores.{Core}
use Rattle.seat_programs.specs.Tasks.{opens, plan_of, id_plan_of}
use Rattle.seat_programs.specs.ScriptSetupToEnding.{all_tasks, IsRunWithCalls}
use Rattle.seat_programs.specs.ExplainedCalls.{Accepted, IsUnordered}
use Rattle.attempted_calls.specs.Below.programs_allowed.specs.program_walks.proofs.WholeScriptSound.{views_ended}
use Rattle.attempted_calls.specs.Below.outcome_stories.specs.StoryStepCauses.{Asks}
use Rattle.attempted_calls.specs.Below.outcome_stories.specs.Explains.{is_plain}
use Rattle.attempted_calls.specs.Below.outcome_stories.specs.KeptStory.{is_of_send}
use Rattle.attempted_calls.specs.Below.outcome_stories.specs.PlainTasks.{told_tasks_of}
use Rattle.attempted_calls.specs.Below.outcome_ticks.proofs.Lifted.{up}
use Rattle.attempted_calls.specs.Below.outcome_causes.proofs.MessagesOfTasks.{each_made, message_of, number_of}
use Rattle.attempted_calls.specs.Below.outcome_stories.proofs.SendersOfLogEntries.{HasSent, all_sent}
use Rattle.attempted_calls.specs.Below.outcome_ticks.proofs.TableTasksDistinct.{one_task}
use Rattle.attempted_calls.specs.Below.joint_runs.proofs.RunsOfBothTables.{AreMade, first_views}
use Rattle.attempted_calls.specs.Below.call_owing.specs.LivesOfLinks.{ClosesInRun}
use Rattle.attempted_calls.specs.accept_counts.specs.AttemptCounts.{of_entry, of_view}
use Rattle.attempted_calls.specs.accept_counts.specs.RefusedOrDropped.{RunWouldOwn}
use Rattle.attempted_calls.specs.accept_counts.proofs.Apart.{heading_one, of_call_fits}
use Rattle.attempted_calls.specs.sent_once.proofs.OtherTasksBesideCalls.{fixed_of_run, gave_of_run, orders_here}
use Rattle.attempted_calls.specs.accept_counts.proofs.EarlyClosedSockets.{start, go, fitting}
use Rattle.attempted_calls.specs.accept_counts.proofs.RunsKeepAttemptLaw.{AreLabelledIn, IsCallOf, Lawful_, end_law}
use Rattle.attempted_calls.specs.sent_once.proofs.ToldEnd.{told_end}
use Rattle.attempted_calls.specs.sent_once.proofs.SocketOperationsTold.{narrow, opening_bare}
use Rattle.refused_attempts.proofs.RefusedWhole.{IsGone}
use Rattle.attempted_calls.specs.Below.owned_ids.proofs.OpensStored.{place_at}
use Rattle.sock_words.specs.Totals.{total}

module _ (script : List Item) (made : AreMade script) (turns : List Turn) (core : Core) (is : IsRunWithCalls script turns core) (closes : ClosesInRun script turns core is) (ids : ℕ → ℕ) (labelled : AreLabelledIn ids script turns core is) (would : RunWouldOwn ids script turns core is) where
  abbrev vs : List View
  vs = views_ended script turns core is (first_views script)

  -- no link accepted a message of the attempt
  module _ (n : ℕ) (asked : Asked) (called : IsCallOf script asked) (gone : IsGone script made turns core is closes ids labelled would (ids asked.operation) n) where
    abbrev id : ℕ
    id = ids asked.operation

    end_labels : Lawful_ (plan_of script) (id_plan_of script) (narrow script made turns core is closes) (IsCallOf script) ids core vs
    end_labels = end_law script made.are (first_views script) (start script made turns core is) (go script made turns core is) turns core is (fitting script made turns core is) (narrow script made turns core is closes) (opening_bare script) ids labelled

    open told_end script made turns core is closes use {told_run, told_story, told_seats, end_sound, rests}

    none_counts : (i m : ℕ) (e : Entry) → HasSent vs i m e → of_entry id n e ≡ 0
    none_counts i m e h = let one = term_le (of_entry id n) h.made m e h.stands in
        let two : total (total (of_entry id n)) h.view.lists ≡ total (of_entry id n) h.made + 0 = ap (total (total (of_entry id n))) h.lists in
        let three = term_le (of_view id n) vs i h.view h.here in let none_ = gone.0 in omega (arith, one, two, three, none_)

    -- the call's task is no `send`
    no_task : (i : ℕ) (t : Task) → Asks (told_tasks_of script) i t → t.number ≡ asked.operation → ⊥
    no_task i t asks e = let x = up (all_tasks script) (length (opens script)) i t asks in let u = called.2 in
        let one = (one_task (plan_of script) (all_tasks script) made.are i called.0 t u x.0 (called.1, place_at (all_tasks script) called.0 called.1 called.3, called.4) (e ∙ called.6)).1 in
        true≢false (sym x.1 ∙ (ap (λ (z : Task). is_plain z.op) one ∙ ap is_plain called.5))

    none_sent : (i m : ℕ) (e : Entry) → HasSent vs i m e → e.heading.label.operation ≡ asked.operation → e.heading.label.attempt ≡ n → ⊥
    none_sent i m e h same at = by (is_of_send e) refl
      where
        by : (b : Bool) → is_of_send e ≡ b → ⊥
        by true sends = let x = message_of (plan_of script) (told_tasks_of script) told_seats true core vs told_run.after.events told_run.after.lost end_sound told_story rests i m e h sends in
            no_task i x.task x.asks (sym (number_of (plan_of script) (told_tasks_of script) told_seats true core vs told_run.after.events told_run.after.lost end_sound told_story rests i e x) ∙ same)
        by false other = let f = of_call_fits (plan_of script) (id_plan_of script) (IsCallOf script) ids (told_tasks_of script) told_seats core vs told_run.after.events told_run.after.lost end_sound told_story rests
            end_labels.0 end_labels.1 i m e h other in
            let one = heading_one id n e.heading f.0 (sym f.1 ∙ ap ids same) at in let none_ = none_counts i m e h in omega (arith, one, none_)

    pub none_accepted : (k : ℕ) → AllByRecursion (λ (a : Accepted). a.operation ≡ asked.operation → a.attempt ≡ n → ⊥) (orders_here script made turns core is closes k).accepted
    none_accepted k = all_sent (plan_of script) core vs end_sound.lawful (each_made (plan_of script) (told_tasks_of script) told_seats true core vs told_run.after.events told_run.after.lost end_sound told_story rests)
        (λ (a : Accepted). a.operation ≡ asked.operation → a.attempt ≡ n → ⊥) k (λ i m e h link. none_sent i m e h)

    pub unordered : IsUnordered (plan_of script) (all_tasks script) core.outcomes (fixed_of_run script made turns core is closes) (gave_of_run script made turns core is closes) (orders_here script made turns core is closes) asked.operation n
    unordered k s = all_at (orders_here script made turns core is closes k).accepted s.0 s.1.1 (none_accepted k) s.1.2 s.1.3 s.1.4
      where
        all_at : (l : List Accepted) (i : ℕ) (a : Accepted) → AllByRecursion (λ (a : Accepted). a.operation ≡ asked.operation → a.attempt ≡ n → ⊥) l → slice_get l i ≡ Some a → a.operation ≡ asked.operation → a.attempt ≡ n → ⊥
        all_at [] i a all e = absurd (cc)
        all_at (x ∷ l) zero a all e = let same : x ≡ a = cc in subst (λ (y : Accepted). y.operation ≡ asked.operation → y.attempt ≡ n → ⊥) same all.0
        all_at (x ∷ l) (suc i) a all e = all_at l i a all.1 e
