-- A whole run with calls tells why each of its tasks but those on calls has its outcome, in words of all tasks, and which links and operations were late.
use Rattle.std.proofs.Common.{◌≡◌, ℕ, zero, suc, ◌⊎◌, true, List, [], ◌∷◌, ◌++◌, length, map, flat_map, replicate, inl, inr, ⊎_elim, refl, sym, ap, subst}
use Rattle.std.specs.Prelude.{Some, slice_get, Contains}
use mathlib.Core.Option.{some}
use lib.ListN.{get_elem?}
use Rattle.sock_words.specs.declared.plain.Plan.{Plan}
use Rattle.sock_model.specs.declared.view.View.{View}
use Rattle.brpc_model.specs.Items.{Item}
use Rattle.brpc_model.specs.Operations.{Turn}
use Rattle.seat_programs.specs.declared.task.Task.{Task}
use Rattle.seat_programs.specs.Cores.{Core}
use Rattle.seat_programs.specs.Ticks.{Moment, quiet, ticked, broken_in}
use Rattle.seat_programs.specs.Tasks.{opens, plan_of}
use Rattle.seat_programs.specs.ScriptSetupToEnding.{all_tasks, opened, set_up, IsRunWithCalls}
use Rattle.seat_programs.specs.Explained.{AreTasks, IsTask}
use Rattle.seat_programs.specs.ExplainedCalls.{Order, Fixed}
use Rattle.outcome_ticks.specs.sock_runs.proofs.LinkTicks.{RetriesGo}
use Rattle.outcome_ticks.specs.program_walks.proofs.WholeScriptSound.{Begins, AreFittingIn, IsOwed}
use Rattle.outcome_ticks.specs.outcome_stories.specs.Explains.{is_plain, plain_tasks}
use Rattle.outcome_ticks.specs.outcome_stories.specs.Facts.{shown_in, broken_of_run, closed_before_ending, late_links_of_run, late_of_run, is_said_late, numbers_of, CallsFoundNone, ToldPlain}
use Rattle.outcome_ticks.specs.outcome_stories.specs.LinkLosses.{closed_at, lost_in}
use Rattle.outcome_ticks.specs.outcome_stories.specs.PlainTasks.{told_tasks_of}
use Rattle.outcome_ticks.specs.outcome_stories.specs.OperationStories.{In}
use Rattle.outcome_ticks.specs.outcome_stories.specs.TaskCauses.{ToldTasks}
use Rattle.outcome_ticks.specs.outcome_stories.proofs.Members.{in_contains, contains_in}
pub use Rattle.outcome_ticks.specs.outcome_stories.proofs.Members.{in_left, in_right, in_both}
use Rattle.outcome_ticks.proofs.Lifted.{filtered_in, why_lifted, told_lifted, are_lifted, lives_lifted}
use Rattle.outcome_causes.proofs.SocketCausesOfScripts.{lost_of_run, late, lost_before, orders, run_told}

-- a link that was lost in some ticks answered that it failed, or its socket was closed
pub lost_so : (p : Plan) (c : Core) (ms : List Moment) (k : ℕ) → In k (lost_in p c ms) → In k (broken_in p c ms) ⊎ In k (shown_in closed_at p c ms)
lost_so p c [] k m = absurd m
lost_so p c (x ∷ xs) k m = ⊎_elim
    (λ a. ⊎_elim (λ b. inl (in_left _ (broken_in p (ticked p c x) xs) k b)) (λ b. inr (in_left (closed_at c x) (shown_in closed_at p (ticked p c x) xs) k b)) (in_both _ (closed_at c x) k a))
    (λ a. ⊎_elim (λ b. inl (in_right _ (broken_in p (ticked p c x) xs) k b)) (λ b. inr (in_right (closed_at c x) (shown_in closed_at p (ticked p c x) xs) k b)) (lost_so p (ticked p c x) xs k a))
    (in_both _ (lost_in p (ticked p c x) xs) k m)

pub in_numbers : (ts : List Task) (t : Task) → In t ts → In t.number (map (λ (t : Task). t.number) ts)
in_numbers [] t m = absurd m
in_numbers (u ∷ ts) t (inl e) = inl (ap (λ (t : Task). t.number) e)
in_numbers (u ∷ ts) t (inr m) = inr (in_numbers ts t m)

pub in_all : (f : List Task → List ℕ) (clients : List (List Task)) (c o : ℕ) (ts : List Task) → slice_get clients c ≡ Some ts → In o (f ts) → In o (flat_map f clients)
in_all f [] c o ts e m = absurd (cc)
in_all f (us ∷ clients) zero o ts e m = in_left (f us) (flat_map f clients) o (subst (λ l. In o (f l)) (sym (same e)) m)
  where
    same : Some us ≡ Some ts → us ≡ ts
    same e = cc
in_all f (us ∷ clients) (suc c) o ts e m = in_right (f us) (flat_map f clients) o (in_all f clients c o ts e m)

-- what a run fixes, beside what is told of its links' ends and its `fail`s
abbrev pub fixed_with : (script : List Item) (turns : List Turn) (core : Core) → IsRunWithCalls script turns core → (early closed silent : List ℕ) (soon fails : List (ℕ × ℕ)) → Fixed
fixed_with script turns core is early closed silent soon fails = record { broken = broken_of_run script turns core is; early = early; closed = closed; silent = silent; late = late_of_run script turns core is; late_links = late_links_of_run script turns core is; soon = soon; fails = fails }

module _ (script : List Item) (are : AreTasks (plan_of script) (all_tasks script)) (vs : List View) (begins : Begins script vs) (fresh : (i : ℕ) (v : View) → get_elem? vs i ≡ some v → v.lists ≡ [] ∷ []) (go : RetriesGo (plan_of script))
    (turns : List Turn) (core : Core) (is : IsRunWithCalls script turns core) (fitting : AreFittingIn script turns core is) (owed : IsOwed script turns core is)
    (early closed silent : List ℕ) (soon : List (ℕ × ℕ)) (gave : ℕ → List ℕ) (last : ℕ → ℕ) where
  pub tells : ToldTasks (told_tasks_of script) core.outcomes (plan_of script) (orders script are vs begins fresh go turns core is fitting owed) (lost_of_run script turns core is) (lost_before script are vs begins fresh go turns core is fitting) (late script are vs begins fresh go turns core is fitting)
  tells = run_told script are vs begins fresh go turns core is fitting owed

  -- what the run fixes
  abbrev pub fixed : Fixed
  fixed = fixed_with script turns core is early closed silent soon tells.fails

  pub lates : (c : ℕ) (t : Task) → IsTask (all_tasks script) core.outcomes c t → is_plain t.op ≡ true → late script are vs begins fresh go turns core is fitting t.number → Contains (late_of_run script turns core is) t.number
  lates c t it plain_ l = in_contains (late_of_run script turns core is) t.number (in_left _ _ t.number
      (filtered_in (is_said_late script turns core is) (flat_map (numbers_of script turns core is) (all_tasks script)) t.number
      (in_all (numbers_of script turns core is) (all_tasks script) c t.number it.0 it.1
      (in_numbers (plain_tasks it.0) t (filtered_in (λ (t : Task). is_plain t.op) it.0 t (contains_in it.0 t it.2) plain_))) l))

  module _ (ends_early : (k : ℕ) → In k (closed_before_ending script turns core is) → Contains early k) where
    pub failing : (k : ℕ) → Contains (lost_before script are vs begins fresh go turns core is fitting) k → Contains (broken_of_run script turns core is) k ⊎ Contains early k
    failing k m = let p : Plan = plan_of script in let ones = replicate is.setup (quiet 0) in let twos = is.scheduled ++ is.later in
        ⊎_elim
        (λ a. ⊎_elim (λ b. inl (in_contains (broken_of_run script turns core is) k (in_left (broken_in p (opened script) ones) _ k b)))
        (λ b. inr (ends_early k (in_left (shown_in closed_at p (opened script) ones) _ k b))) (lost_so p (opened script) ones k a))
        (λ a. ⊎_elim (λ b. inl (in_contains (broken_of_run script turns core is) k (in_right (broken_in p (opened script) ones) _ k (in_left (broken_in p (set_up script is.setup) twos) _ k b))))
        (λ b. inr (ends_early k (in_right (shown_in closed_at p (opened script) ones) _ k b))) (lost_so p (set_up script is.setup) twos k a))
        (in_both (lost_in p (opened script) ones) (lost_in p (set_up script is.setup) twos) k
        (contains_in (lost_before script are vs begins fresh go turns core is fitting) k m))

    abbrev these : ℕ → Order
    these = orders script are vs begins fresh go turns core is fitting owed

    abbrev few : List ℕ
    few = lost_before script are vs begins fresh go turns core is fitting

    abbrev later : ℕ → Type 0
    later = late script are vs begins fresh go turns core is fitting

    -- whatever the schedule, where calls that found a name without a socket did so before other operations of their client
    pub run_plain : CallsFoundNone (all_tasks script) core.outcomes → ToldPlain (plan_of script) (all_tasks script) core.outcomes fixed gave (orders script are vs begins fresh go turns core is fitting owed) last
    run_plain in_vain = record {
      told = told_lifted (all_tasks script) (length (opens script)) core.outcomes (plan_of script) are fixed gave these last (lost_of_run script turns core is) few later tells refl failing lates in_vain;
      are = are_lifted (all_tasks script) (length (opens script)) core.outcomes (plan_of script) are fixed gave these last (lost_of_run script turns core is) few later tells refl failing lates in_vain;
      once = tells.once;
      lives = lives_lifted (all_tasks script) (length (opens script)) core.outcomes (plan_of script) are fixed gave these last (lost_of_run script turns core is) few later tells refl failing lates in_vain;
      why = why_lifted (all_tasks script) (length (opens script)) core.outcomes (plan_of script) are fixed gave these last (lost_of_run script turns core is) few later tells refl failing lates in_vain;
    }
