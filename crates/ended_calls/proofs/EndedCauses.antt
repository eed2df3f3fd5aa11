-- Why a call ends with 2002 by a reader's post, and what is known where it ends so with 1014.
use Rattle.std.proofs.Common.{◌≡◌, ◌≢◌, ℕ, ◌≤◌, ◌⊎◌, inl, inr, List, Ok, sym, ap, ◌∙◌, subst, arith}
use Rattle.std.specs.Prelude.{Contains}
use Rattle.corr_core.specs.IdSlotWord.{error_of}
use Rattle.seat_programs.specs.brpc_model.specs.Items.{Item}
use Rattle.seat_programs.specs.brpc_model.specs.Operations.{Turn}
use Rattle.seat_programs.specs.brpc_model.specs.Script.{script_of}
use Rattle.sock_message.specs.Asked.{Asked, name_of}
use Rattle.seat_programs.specs.declared.task.Op.TheVariants as ops
use Rattle.seat_programs.specs.declared.task.Task.{Task}
use Rattle.seat_programs.specs.Cores.{Core}
use Rattle.seat_programs.specs.Tasks.{plan_of}
use Rattle.seat_programs.specs.ScriptSetupToEnding.{all_tasks, IsRunWithCalls}
use Rattle.seat_programs.specs.Explained.{IsTask}
use Rattle.seat_programs.specs.ExplainedCalls.{MayBeOn, IsFailing}
use Rattle.refused_attempts.specs.attempted_calls.specs.Below.outcome_stories.specs.OperationStories.{In}
use Rattle.refused_attempts.specs.attempted_calls.specs.Below.outcome_stories.proofs.Members.{contains_in}
use Rattle.refused_attempts.specs.attempted_calls.specs.Below.outcome_ticks.proofs.TableTasksDistinct.{one_task}
use Rattle.refused_attempts.specs.attempted_calls.specs.Below.joint_runs.proofs.RunsOfBothTables.{AreMade}
use Rattle.refused_attempts.specs.attempted_calls.specs.Below.call_owing.specs.LivesOfLinks.{ClosesInRun}
use Rattle.refused_attempts.specs.attempted_calls.specs.Below.call_stories.specs.LinkReadingLists.{early_of_run, closed_of_run, silent_of_run}
use Rattle.refused_attempts.specs.attempted_calls.specs.Below.call_stories.specs.PostsOfRun.{Post}
use Rattle.refused_attempts.specs.attempted_calls.specs.accept_counts.specs.EndedCalls.{reader_posts_of_run, EndedSo}
use Rattle.refused_attempts.specs.attempted_calls.specs.sent_once.proofs.OtherTasksBesideCalls.{gave_of_run, fixed_of_run, orders_here}
use Rattle.refused_attempts.specs.attempted_calls.specs.accept_counts.proofs.RunsKeepAttemptLaw.{AreLabelledIn, IsCallOf}
use Rattle.ended_calls.proofs.EndedAttempts.{IsReaderPost, run_reader_post}
use Rattle.ended_calls.proofs.EndedOnce.{run_stored_once}
use Rattle.refused_attempts.specs.attempted_calls.specs.Below.owned_ids.proofs.OpensStored.{place_at}

module _ (script : List Item) (made : AreMade script) (turns : List Turn) (core : Core) (is : IsRunWithCalls script turns core) (closes : ClosesInRun script turns core is) (ids : ℕ → ℕ) (labelled : AreLabelledIn ids script turns core is)
    -- no two calls have one id
    (single : (o x : ℕ) → ids o ≢ 0 → ids o ≡ ids x → o ≡ x) (bytes : List ℕ) (reads : script_of bytes ≡ Ok script) where
  abbrev May : ℕ → ℕ → ℕ → ℕ → Type 0
  May o n name k = MayBeOn (plan_of script) (all_tasks script) core.outcomes (fixed_of_run script made turns core is closes) (gave_of_run script made turns core is closes) (orders_here script made turns core is closes) o n name k

  module _ (client : ℕ) (t : Task) (asked : Asked) (it : IsTask (all_tasks script) core.outcomes client t) (op : t.op ≡ ops.Call asked) (x : Post) (there : In x (reader_posts_of_run script turns core is)) (own : x.id ≡ ids t.number) where
    same_asked : (a : Asked) → IsCallOf script a → a.operation ≡ t.number → a ≡ asked
    same_asked a of number = let one = (one_task (plan_of script) (all_tasks script) made.are of.0 client of.2 t (of.1, place_at (all_tasks script) of.0 of.1 of.3, of.4) (it.0, it.1, contains_in it.0 t it.2) (sym of.6 ∙ number)).1 in
        let two : ops.Call a ≡ ops.Call asked = sym of.5 ∙ (ap (λ (y : Task). y.op) one ∙ op) in cc

    -- a link of the attempt whose reading ended with the code
    pub record EndedOn (code n : ℕ) : Type 0 where
      pub link : ℕ
      pub on : May t.number n (name_of asked n) link
      pub ended : EndedSo script turns core is link code

    post : (code n : ℕ) → x.error ≡ error_of code n → n ≤ 7 → IsReaderPost script made turns core is closes ids labelled (run_stored_once script made turns core is closes ids labelled) (fixed_of_run script made turns core is closes) (gave_of_run script made turns core is closes) code n x
    post code n error few = run_reader_post script made turns core is closes ids labelled (run_stored_once script made turns core is closes ids labelled) (fixed_of_run script made turns core is closes) (gave_of_run script made turns core is closes) bytes reads x there code n error few

    on_call : (code n : ℕ) (r : IsReaderPost script made turns core is closes ids labelled (run_stored_once script made turns core is closes ids labelled) (fixed_of_run script made turns core is closes) (gave_of_run script made turns core is closes) code n x) → May t.number n (name_of asked n) r.link
    on_call code n r = let number : r.asked.operation ≡ t.number = single r.asked.operation t.number r.some_ (sym r.id ∙ own) in
        subst (λ (a : Asked). May t.number n (name_of a n) r.link) (same_asked r.asked r.called number) (subst (λ o. May o n (name_of r.asked n) r.link) number r.on)

    -- an error that a reader posted for attempt n of a call
    pub run_ended_on : (code n : ℕ) → x.error ≡ error_of code n → n ≤ 7 → EndedOn code n
    run_ended_on code n error few = let r = post code n error few in record { link = r.link; on = on_call code n r; ended = r.ended }

    -- where it is 1014 the reading of the link ended, as the run's lists have it; early only on a link that may drop messages
    pub run_by_end : (n : ℕ) → x.error ≡ error_of 1014 n → n ≤ 7 → (k : ℕ) × May t.number n (name_of asked n) k
        × ((Contains (early_of_run script turns core is) k × IsFailing (plan_of script) (all_tasks script) core.outcomes (fixed_of_run script made turns core is closes) (gave_of_run script made turns core is closes) (orders_here script made turns core is closes) k)
        ⊎ (Contains (closed_of_run script turns core is) k ⊎ Contains (silent_of_run script turns core is) k))
    run_by_end n error few = let e = run_ended_on 1014 n error few in (e.link, e.on, by e.link e.ended)
      where
        by : (k : ℕ) → EndedSo script turns core is k 1014
            → (Contains (early_of_run script turns core is) k × IsFailing (plan_of script) (all_tasks script) core.outcomes (fixed_of_run script made turns core is closes) (gave_of_run script made turns core is closes) (orders_here script made turns core is closes) k)
            ⊎ (Contains (closed_of_run script turns core is) k ⊎ Contains (silent_of_run script turns core is) k)
        by k (inl (e, inl early)) = inl (early, inr (inr (inl early)))
        by k (inl (e, inr other)) = inr other
        by k (inr (e, fault)) = absurd (let z : ⊥ = omega (arith, e) in z)
