-- Each operation's number is that of one task, and a call is asked for under the number of its own.
use Rattle.std.proofs.Common.{◌≡◌, ◌≢◌, ℕ, ◌+◌, ◌*◌, ◌/◌, ◌%◌, ◌<◌, ◌≤◌, List, [], ◌∷◌, refl, sym, ap, ◌∙◌, arith}
use Rattle.std.specs.List.{AllByRecursion}
use mathlib.Core.Logic.{dite}
use native.Mathlib.Decide.{ℕ_discrete}
use Rattle.brpc_model.specs.Order.{EachBefore}
use Rattle.sock_words.specs.declared.plain.Plan.{Plan}
use Rattle.seat_programs.specs.declared.task.Op.{Op}
use Rattle.seat_programs.specs.declared.task.Op.TheVariants as ops
use Rattle.seat_programs.specs.declared.task.Task.{Task}
use Rattle.seat_programs.specs.Explained.{AreTasks, Differ, HaveOwnLinks}
use Rattle.corr_core.specs.IdSlotLaw.{only}
use Rattle.corr_core.specs.declared.marks.Plan as id_plan
use Rattle.corr_core.proofs.NoteSums.{only-at, only-else, only_le}
use Rattle.call_run.specs.call_client.specs.ClientBetweenOperations.{Needs}
use Rattle.call_run.specs.call_client.specs.ClientRun.{MayMakeAll, left_by}
use Rattle.call_places.proofs.RetryAndIdCounts.{call_in}
use Rattle.call_places.proofs.LabelPlaceIndices.{label_in, labels}
use Rattle.sock_words.specs.Totals.{total}
use Rattle.sock_deeds.specs.script_facts.proofs.FilteredLists.{all_map}

-- the task of this number
abbrev pub numbered : ℕ → Task → ℕ
numbered o t = only o t.number

-- ## Once

none_numbered : (o : ℕ) (ts : List Task) → AllByRecursion (λ (t : Task). t.number ≢ o) ts → total (numbered o) ts ≡ 0
none_numbered o [] a = refl
none_numbered o (t ∷ ts) a = let x = only-else o t.number a.0 in let y = none_numbered o ts a.1 in omega arith

-- those of a client rise
once_in : (o : ℕ) (ts : List Task) → EachBefore (λ (a b : Task). (a.number < b.number) × HaveOwnLinks a.op b.op) ts → total (numbered o) ts ≤ 1
once_in o [] h = omega arith
once_in o (t ∷ ts) h = dite (ℕ_discrete t.number o)
    (λ e. let x = only_le o t.number in let y = none_numbered o ts (all_map (λ (u : Task). (t.number < u.number) × HaveOwnLinks t.op u.op) (λ (u : Task). u.number ≢ o) (λ u r q. (let less = r.0 in omega (arith, less, e, q))) ts h.0) in omega arith)
    (λ n. let x = only-else o t.number n in let y = once_in o ts h.1 in omega arith)

abbrev numbered_each : ℕ → List Task → ℕ
numbered_each o ts = total (numbered o) ts

-- where one of these has the number, none of the others does
none_else : (o : ℕ) (ts us : List Task) → AllByRecursion (λ (t : Task). AllByRecursion (Differ t) us) ts → 0 < total (numbered o) ts → total (numbered o) us ≡ 0
none_else o [] us d some_ = absurd (omega arith)
none_else o (t ∷ ts) us d some_ = dite (ℕ_discrete t.number o)
    (λ e. none_numbered o us (all_map (Differ t) (λ (u : Task). u.number ≢ o) (λ u r q. r.0 (e ∙ sym q)) us d.0))
    (λ n. let x = only-else o t.number n in none_else o ts us d.1 (omega arith))

none_behind : (o : ℕ) (ts : List Task) (tss : List (List Task)) → AllByRecursion (λ (us : List Task). AllByRecursion (λ (t : Task). AllByRecursion (Differ t) us) ts) tss → 0 < total (numbered o) ts → total (numbered_each o) tss ≡ 0
none_behind o ts [] d some_ = refl
none_behind o ts (us ∷ tss) d some_ = let x = none_else o ts us d.0 some_ in let y = none_behind o ts tss d.1 some_ in omega arith

once_of : (o : ℕ) (tss : List (List Task)) → AllByRecursion (EachBefore (λ (a b : Task). (a.number < b.number) × HaveOwnLinks a.op b.op)) tss → EachBefore (λ (ts us : List Task). AllByRecursion (λ (t : Task). AllByRecursion (Differ t) us) ts) tss → total (numbered_each o) tss ≤ 1
once_of o [] rise differ = omega arith
once_of o (ts ∷ tss) rise differ = dite (ℕ_discrete (total (numbered o) ts) 0)
    (λ e. let x = once_of o tss rise.1 differ.1 in omega arith)
    (λ n. let x = once_in o ts rise.0 in let y = none_behind o ts tss differ.0 (omega arith) in omega arith)

pub numbered_once : (p : Plan) (tss : List (List Task)) → AreTasks p tss → (o : ℕ) → total (λ (ts : List Task). total (numbered o) ts) tss ≤ 1
numbered_once p tss are o = once_of o tss are.in_order are.differ

-- ## Of a client that may make its operations

module _ (p : Plan) (q : id_plan.Plan) where
  own_call : (o number : ℕ) (op : Op) (passes : ℕ) → Needs p q number op passes → call_in o op ≤ only o number
  own_call o number (ops.Call asked) passes n = let e = ap (only o) n.1 in omega arith
  own_call o number _ passes h = omega arith

  -- a message's place index is eight times the number
  eight_times : (l number : ℕ) → only l (8 * number + 0) ≤ only (l / 8) number
  eight_times l number = dite (ℕ_discrete (8 * number + 0) l)
      (λ e. let x = only-at l _ e in let y = only-at (l / 8) number (omega (arith, e)) in omega arith)
      (λ n. let x = only-else l _ n in omega arith)

  own_label : (l number : ℕ) (op : Op) (passes : ℕ) → Needs p q number op passes → label_in l number op ≤ only (l / 8) number
  own_label l number (ops.Call asked) passes n = let e = ap (only (l / 8)) n.1 in let x = eight_times l asked.operation in omega arith
  own_label l number (ops.Send n bytes) passes h = eight_times l number
  own_label l number _ passes h = omega arith

  pub own_calls : (o : ℕ) (ts : List Task) (passes : ℕ) → MayMakeAll p q ts passes → total (λ (t : Task). call_in o t.op) ts ≤ total (numbered o) ts
  own_calls o [] passes m = omega arith
  own_calls o (t ∷ ts) passes m = let x = own_call o t.number t.op passes m.0.needs in let y = own_calls o ts (left_by t.op passes) m.1 in omega arith

  pub own_labels : (l : ℕ) (ts : List Task) (passes : ℕ) → MayMakeAll p q ts passes → total (labels l) ts ≤ total (numbered (l / 8)) ts
  own_labels l [] passes m = omega arith
  own_labels l (t ∷ ts) passes m = let x = own_label l t.number t.op passes m.0.needs in let y = own_labels l ts (left_by t.op passes) m.1 in omega arith

  pub low_number : (o : ℕ) (ts : List Task) (passes : ℕ) → MayMakeAll p q ts passes → 0 < total (numbered o) ts → o < p.operations
  low_number o [] passes m some_ = absurd (omega arith)
  low_number o (t ∷ ts) passes m some_ = dite (ℕ_discrete t.number o)
      (λ e. let x = m.0.number in omega arith)
      (λ n. let x = only-else o t.number n in low_number o ts (left_by t.op passes) m.1 (omega arith))

-- a retry's place index is none of an operation's own message
no_label : (l number : ℕ) (op : Op) → 0 < l % 8 → label_in l number op ≡ 0
no_label l number (ops.Send n bytes) some_ = only-else l (8 * number + 0) (λ e. omega (arith, e, some_))
no_label l number (ops.Call asked) some_ = only-else l (8 * asked.operation + 0) (λ e. omega (arith, e, some_))
no_label l number _ some_ = refl

pub no_labels : (l : ℕ) (ts : List Task) → 0 < l % 8 → total (labels l) ts ≡ 0
no_labels l [] some_ = refl
no_labels l (t ∷ ts) some_ = let x = no_label l t.number t.op some_ in let y = no_labels l ts some_ in omega arith
