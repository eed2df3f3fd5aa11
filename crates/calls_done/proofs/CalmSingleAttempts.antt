-- Where nothing went wrong no link is failing, and each call made one attempt.
use Rattle.std.proofs.Common.{◌≡◌, ℕ, zero, suc, ◌<◌, ◌≤◌, [], Some, refl, ap, ◌∙◌, subst, arith}
use Rattle.std.proofs.lemmas.Option.{slice_get_within}
use Rattle.std.specs.Prelude.{Contains}
use Rattle.brpc_model.specs.Complete.{IsUntroubled}
use Rattle.brpc_model.specs.Items.{Call, CallLine, Fail, attempts_of}
use Rattle.brpc_model.specs.Operations.{Operation}
use Rattle.brpc_model.specs.Run.{IsOperation}
use Rattle.callless_fits.specs.sock_deeds.specs.script_facts.proofs.FilteredLists.{Has, all_at, has_from, has_none, contains_from}
use Rattle.callless_fits.specs.sock_deeds.specs.script_facts.proofs.OperationNumbering.{are_from}
use Rattle.callless_fits.specs.sock_deeds.specs.script_facts.proofs.TaskLemmas.{numbers_at, task_is, fail_asks}
use Rattle.sock_message.specs.Asked.{Asked, name_of}
use Rattle.seat_programs.specs.declared.task.Op.TheVariants as ops
use Rattle.seat_programs.specs.declared.task.Task.{Task}
use Rattle.seat_programs.specs.ScriptSetupToEnding.{all_tasks}
use Rattle.seat_programs.specs.Tasks.{numbered, plan_of}
use Rattle.seat_programs.specs.Explained.{IsTask}
use Rattle.seat_programs.specs.ExplainedCalls as told
use Rattle.seat_programs.specs.ExplainedCalls.{Accepted, IsSent, StandsAt}
use Rattle.callless_fits.specs.sock_deeds.specs.SocketsTold.{fixed_by}
use Rattle.calls_done.proofs.KnownCallRun.{Known}
use Rattle.callless_fits.proofs.EverySendPlaced.{run_of, Names, links, fewer, unfailed, life_low}

module _ (s : Known) where
  -- message a, which link k accepted, is that of a `send` of which nothing is said, or that of an attempt that was made of a call
  abbrev pub Sent_ : ℕ → Accepted → Type 0
  Sent_ k a = IsSent (plan_of s.run.script) (all_tasks s.run.script) s.run.outcomes (fixed_by s.run.broken s.run.early s.run.fails) s.run.gave s.run.orders s.run.last k a

  pub sent_at : (k i : ℕ) (a : Accepted) → k < links s.run → StandsAt s.run.orders k i a → Sent_ k a
  sent_at k i a low at = all_at (Sent_ k) (s.run.orders k).accepted a (s.run.sent k low) (i, at)

module _ (s : Known) (untroubled : IsUntroubled s.run.script s.run.ends) (none_early : (k : ℕ) → k < links s.run → Contains s.run.early k → ⊥) where
  -- no `fail` stands in the script
  pub no_fail : (client : ℕ) (t : Task) (name code : ℕ) → IsTask (all_tasks s.run.script) s.run.outcomes client t → t.op ≡ ops.Fail name code → ⊥
  no_fail client t name code it op = let w = task_is s.run.script s.run.outcomes client t it in let m = fail_asks (numbered s.run.script) (Names s.run) (numbers_at s.run.script t.number w.operation) w.operation.item name code (w.asks ∙ ap Some op) in
      untroubled.no_fail m.0 code (contains_from s.run.script (Fail m.0 code) (subst (Has s.run.script) m.1 (are_from 0 1 s.run.script t.number w.operation w.there).there))

  -- ## The first attempt

  abbrev pub WasFull_ : Type 0
  WasFull_ = told.WasFull (plan_of s.run.script) (all_tasks s.run.script) s.run.outcomes (fixed_by s.run.broken s.run.early s.run.fails) s.run.gave s.run.orders

  abbrev IsUnordered_ : ℕ → ℕ → Type 0
  IsUnordered_ o n = told.IsUnordered (plan_of s.run.script) (all_tasks s.run.script) s.run.outcomes (fixed_by s.run.broken s.run.early s.run.fails) s.run.gave s.run.orders o n

  abbrev pub At_ : ℕ → ℕ → ℕ → ℕ → Type 0
  At_ o n k i = told.IsAt (plan_of s.run.script) (all_tasks s.run.script) s.run.outcomes (fixed_by s.run.broken s.run.early s.run.fails) s.run.gave s.run.orders o n k i

  -- there are requests for all attempts
  pub unfull : (i : ℕ) (op : Operation) (call : CallLine) → IsOperation (run_of s.run) i op → op.item ≡ Call call → IsUnordered_ i 0 → WasFull_ → ⊥
  unfull i op call there item out full = let less = fewer s.run i 0 op there (let e = ap attempts_of item in omega (arith, e)) out in let few = untroubled.few_attempts in let z : ⊥ = omega (arith, less, few, full) in z

  pub no_drop : (o n k i : ℕ) → At_ o n k i → (s.run.orders k).placed ≤ i → ⊥
  no_drop o n k i w dropped = let inside = slice_get_within (s.run.orders k).accepted i w.1 w.2 in unfailed s.run untroubled none_early (λ f. Unit {0}) k w.0 (s.run.tells.dropped k w.0 (omega (arith, inside, dropped)))

  pub no_loss : (c o name : ℕ) → told.WhyLost (plan_of s.run.script) (all_tasks s.run.script) s.run.outcomes (fixed_by s.run.broken s.run.early s.run.fails) s.run.gave s.run.orders c o 0 name → ⊥
  no_loss c o name (told.WasFailing k (slot, version, life) failing) = unfailed s.run untroubled none_early (λ f. Unit {0}) k (life_low s.run untroubled none_early name k slot version life) failing
  no_loss c o name (told.RunEnding late) = has_none o (has_from [] o late)
  no_loss c o name (told.WasUnopened later d m some_ few behind none_) = let z : ⊥ = omega (arith, later) in z

  module _ (i : ℕ) (op : Operation) (call : CallLine) (there : IsOperation (run_of s.run) i op) (item : op.item ≡ Call call) (c : ℕ) (asked : Asked) (it : IsTask (all_tasks s.run.script) s.run.outcomes c (record { number = i; op = ops.Call asked })) where
    no_again : told.WhyAgain (plan_of s.run.script) (all_tasks s.run.script) s.run.outcomes (fixed_by s.run.broken s.run.early s.run.fails) s.run.gave s.run.orders c i 0 (name_of asked 0) → ⊥
    no_again (told.AfterDrop w) = no_drop i 0 w.0 w.1 w.2 w.3
    no_again (told.AfterLoss out lost) = no_loss c i (name_of asked 0) lost
    no_again (told.AfterFull out full) = unfull i op call there item out full

    -- is the last
    pub last_first : s.run.last i ≡ 0
    last_first = by (s.run.last i) refl
      where
        by : (n : ℕ) → s.run.last i ≡ n → s.run.last i ≡ 0
        by zero e = e
        by (suc n) e = absurd (no_again (s.again c (record { number = i; op = ops.Call asked }) asked it refl 0 (omega (arith, e))))
