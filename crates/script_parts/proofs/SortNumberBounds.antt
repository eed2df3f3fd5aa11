-- The numbers of the operations of one sort are below that of operations, and no more than they are.
use Rattle.std.proofs.Common.{◌≡◌, ℕ, ◌+◌, ◌<◌, ◌≤◌, Bool, true, false, List, [], ◌∷◌, ◌++◌, length, take, drop, get_or, filter_map, Some, None, Ok, sym, subst, ap, arith, cond}
use Rattle.std.specs.List.{All, AllByRecursion, cons_option}
use Rattle.std.proofs.lemmas.List.Elements.{All-from_recursion}
use Rattle.brpc_model.specs.Items.{Item, is_open, is_call}
use Rattle.brpc_model.specs.Operations.{Operation, operations}
use Rattle.brpc_model.specs.Script.{script_of}
use Rattle.sock_words.specs.declared.plain.Plan.{Plan}
use Rattle.corr_core.specs.declared.marks.Plan.{Plan as IdPlan}
use Rattle.callless_fits.specs.sock_deeds.specs.script_facts.proofs.FilteredLists.{filter_map_short}
use Rattle.callless_fits.specs.sock_deeds.specs.script_facts.proofs.OperationNumbering.{numbered_length}
use Rattle.callless_fits.specs.sock_deeds.specs.script_facts.proofs.ScriptSizes.{keeps_limits}
use Rattle.seat_programs.specs.Tasks.{Numbered, numbered_from, opens, calls, plan_of}
use Rattle.call_run.specs.Threads.{ids_of}

module _ (sort : Item → Bool) where
  more_low : (b : Bool) (number : ℕ) (os : List ℕ) (n : ℕ) → AllByRecursion (λ (o : ℕ). o < n) os → number < n → AllByRecursion (λ (o : ℕ). o < n) (cons_option (cond b (Some number) None) os)
  more_low true number os n all less = (less, all)
  more_low false number os n all less = all

  all_low : (number link : ℕ) (ops : List Operation) (n : ℕ) → number + length ops ≤ n → AllByRecursion (λ (o : ℕ). o < n) (filter_map (λ (x : Numbered). cond (sort x.op.item) (Some x.number) None) (numbered_from number link ops))
  all_low number link [] n e = tt
  all_low number link (op ∷ ops) n e = more_low (sort op.item) number (filter_map (λ (x : Numbered). cond (sort x.op.item) (Some x.number) None) (numbered_from (number + 1) (cond (is_open op.item) (link + 1) link) ops)) n
      (all_low (number + 1) (cond (is_open op.item) (link + 1) link) ops n (omega (arith, e))) (omega (arith, e))

  few_of : (number link : ℕ) (ops : List Operation) → length (filter_map (λ (x : Numbered). cond (sort x.op.item) (Some x.number) None) (numbered_from number link ops)) ≤ length ops
  few_of number link ops = omega (arith, filter_map_short (λ (x : Numbered). cond (sort x.op.item) (Some x.number) None) (numbered_from number link ops), numbered_length number link ops)

module _ (script : List Item) (p : Plan) (plan : p ≡ plan_of script) where
  -- a run takes these numbers
  pub opens_below : (os : List ℕ) → os ≡ opens script → All (λ (o : ℕ). o < p.operations) os
  opens_below os are =
      subst (λ (q : Plan). All (λ (o : ℕ). o < q.operations) os) (sym plan) (subst (All (λ (o : ℕ). o < (plan_of script).operations)) (sym are)
      (All-from_recursion (λ (o : ℕ). o < (plan_of script).operations) (opens script) (all_low is_open 0 0 (operations script) (length (operations script)) (omega arith))))

  pub calls_low : (cs : List ℕ) → cs ≡ calls script → All (λ (o : ℕ). o < p.operations) cs
  calls_low cs are =
      subst (λ (q : Plan). All (λ (o : ℕ). o < q.operations) cs) (sym plan) (subst (All (λ (o : ℕ). o < (plan_of script).operations)) (sym are)
      (All-from_recursion (λ (o : ℕ). o < (plan_of script).operations) (calls script) (all_low is_call 0 0 (operations script) (length (operations script)) (omega arith))))

  pub calls_below : (slots : ℕ) (q : IdPlan) → q ≡ ids_of p slots → (cs : List ℕ) → cs ≡ calls script → All (λ (o : ℕ). o < q.operations) cs
  calls_below slots q same cs are =
      subst (λ (x : IdPlan). All (λ (o : ℕ). o < x.operations) cs) (sym same) (subst (λ (x : Plan). All (λ (o : ℕ). o < x.operations + 1) cs) (sym plan) (subst (All (λ (o : ℕ). o < (plan_of script).operations + 1)) (sym are)
      (All-from_recursion (λ (o : ℕ). o < (plan_of script).operations + 1) (calls script) (all_low is_call 0 0 (operations script) (length (operations script) + 1) (omega arith)))))

module _ (bytes : List ℕ) (script : List Item) (reads : script_of bytes ≡ Ok script) where
  pub few_operations : (p : Plan) → p ≡ plan_of script → p.operations ≤ 4096
  few_operations p plan = let k = keeps_limits bytes script reads in let n = k.operations in let s : p.operations ≡ length (operations script) = ap (λ (x : Plan). x.operations) plan in omega (arith, n, s)

  pub few_calls : (slots : ℕ) → slots ≡ length (calls script) → slots ≤ 4096
  few_calls slots many = let k = keeps_limits bytes script reads in let n = k.operations in omega (arith, n, many, few_of is_call 0 0 (operations script))

-- the first of a list and the others
pub front_of : {A : Type 0} (xs rest : List A) (x : A) → 0 < length xs → x ≡ get_or xs 0 x → rest ≡ take 0 xs ++ drop (0 + 1) xs → xs ≡ x ∷ rest
front_of [] rest x some_ at is = absurd (omega arith)
front_of (y ∷ ys) rest x some_ at is = (λ i. sym at i ∷ sym is i)
