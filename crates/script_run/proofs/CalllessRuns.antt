-- In a script without calls each task is a plain one: what is told of plain tasks is all that is told.
use Rattle.std.proofs.Common.{◌≡◌, ℕ, true, false, List, Option, Some, refl, sym, ap, ◌∙◌}
use Rattle.sock_words.specs.declared.outcome.Outcome.{Outcome}
use Rattle.brpc_model.specs.Items.{Item}
use Rattle.brpc_model.specs.LinePlaceFaults.{names}
use Rattle.sock_message.specs.Asked.{Asked}
use Rattle.seat_programs.specs.declared.task.Op.{Op}
use Rattle.seat_programs.specs.declared.task.Op.TheVariants as ops
use Rattle.seat_programs.specs.declared.task.Task.{Task}
use Rattle.seat_programs.specs.Cores.{Core}
use Rattle.seat_programs.specs.Tasks.{numbered, plan_of}
use Rattle.seat_programs.specs.ScriptSetupToEnding.{all_tasks, is_callless, is_later}
use Rattle.seat_programs.specs.Explained.{IsTask}
use Rattle.seat_programs.specs.ExplainedCalls.{Fixed, Order, ExplainedCalls}
use Rattle.calm_runs.specs.Below.outcome_stories.specs.Explains.{is_plain}
use Rattle.calm_runs.specs.Below.outcome_stories.specs.Facts.{ToldSends}
use Rattle.calm_runs.specs.Below.report_fits.proofs.CalllessScript.{not_later}
use Rattle.calm_runs.specs.Below.script_facts.proofs.OperationNumbering.{are_from}
use Rattle.calm_runs.specs.Below.script_facts.proofs.TaskLemmas.{IsTaskOf, numbers_at, task_is, call_asks, expire_asks, join_asks}

module _ (script : List Item) (outcomes : List (Option Outcome)) (callless : is_callless script ≡ true) where
  not_on_calls : (c : ℕ) (t : Task) (item : Item) → IsTask (all_tasks script) outcomes c t → (w : IsTaskOf script c t) → w.operation.item ≡ item → is_later item ≡ false
  not_on_calls c t item is w e = sym (ap is_later e) ∙ not_later script callless w.operation.item (are_from 0 1 script t.number w.operation w.there).there

  pub no_call : (c : ℕ) (t : Task) (asked : Asked) → IsTask (all_tasks script) outcomes c t → t.op ≡ ops.Call asked → ⊥
  no_call c t asked is op =
      let w = task_is script outcomes c t is in
      let m = call_asks (numbered script) (names script) (numbers_at script t.number w.operation) w.operation.item asked (w.asks ∙ ap Some op) in
      let later : true ≡ false = not_on_calls c t _ is w m.1 in absurd (cc)

  no_expire : (c : ℕ) (t : Task) (o : ℕ) → IsTask (all_tasks script) outcomes c t → t.op ≡ ops.Expire o → ⊥
  no_expire c t o is op =
      let w = task_is script outcomes c t is in
      let m = expire_asks (numbered script) (names script) (numbers_at script t.number w.operation) w.operation.item o (w.asks ∙ ap Some op) in
      let later : true ≡ false = not_on_calls c t _ is w m.2 in absurd (cc)

  no_join : (c : ℕ) (t : Task) (o : ℕ) → IsTask (all_tasks script) outcomes c t → t.op ≡ ops.Join o → ⊥
  no_join c t o is op =
      let w = task_is script outcomes c t is in
      let m = join_asks (numbered script) (names script) (numbers_at script t.number w.operation) w.operation.item o (w.asks ∙ ap Some op) in
      let later : true ≡ false = not_on_calls c t _ is w m.2 in absurd (cc)

  pub plain_task : (c : ℕ) (t : Task) → IsTask (all_tasks script) outcomes c t → is_plain t.op ≡ true
  plain_task c t is = by t.op refl
    where
      by : (o : Op) → t.op ≡ o → is_plain o ≡ true
      by (ops.Call asked) e = absurd (no_call c t asked is e)
      by (ops.Expire o) e = absurd (no_expire c t o is e)
      by (ops.Join o) e = absurd (no_join c t o is e)
      by _ e = refl

  -- so nothing more is told of it
  pub all_told : (fixed : Fixed) (gave : ℕ → List ℕ) (orders : ℕ → Order) (last : ℕ → ℕ) (core : Core) → ToldSends (plan_of script) (all_tasks script) outcomes fixed gave orders last core → ExplainedCalls (plan_of script) (all_tasks script) outcomes fixed gave orders core
  all_told fixed gave orders last core h = record {
    last = last;
    are_orders = h.are_orders;
    told = λ client t is. h.told client t is (plain_task client t is);
    are = h.are;
    once = h.once;
    lives = h.lives;
    why = λ client t outcome is became. h.why client t outcome is (plain_task client t is) became;
    again = h.again;
    sent = h.sent;
    own_order = h.own_order;
    dropped = h.dropped;
    expired_once = λ c d t u o is also e f x y. absurd (no_expire c t o is e);
    versions = λ c d t u a b x y i j is also e f bx by si sj apart. absurd (no_call c t a is e);
  }
