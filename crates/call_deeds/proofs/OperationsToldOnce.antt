-- What clients with calls told of their operations: of each at most once, and of an `open` always.
use Rattle.std.proofs.Common.{◌≡◌, ◌≢◌, ℕ, zero, suc, Option, Some, None, List, ◌++◌, flat_map, refl, sym, ap, ◌∙◌, subst, arith}
use Rattle.std.proofs.lemmas.Option.{none-some}
use mathlib.Core.Logic.{dite}
use native.Mathlib.Decide.{ℕ_discrete, dec_lt}
use mathlib.Core.Option.{some, some-injective, some-ne-none}
use lib.ListN.{get_elem?}
use Rattle.brpc_model.specs.Order.{EachBefore}
use Rattle.sock_io.specs.declared.link.Out.{Ghosts}
use Rattle.sock_io.specs.LinkHalves.{OutState}
use Rattle.sock_words.specs.declared.outcome.Outcome.{Outcome}
use Rattle.sock_words.specs.declared.plain.Plan.{Plan}
use Rattle.chain_steps.proofs.TicketLists.{old, new, at_snoc}
use Rattle.seat_programs.specs.declared.task.Op.{Op}
use Rattle.seat_programs.specs.declared.task.Op.TheVariants as ops
use Rattle.seat_programs.specs.declared.task.Task.{Task}
use Rattle.call_places.specs.outcome_ticks.proofs.SeatPartOfStory.{Less}
use Rattle.call_places.specs.script_facts.proofs.FilteredLists.{before_at}
use Rattle.corr_core.specs.declared.marks.Plan as id_plan
use Rattle.call_places.specs.Below.RpcClient.Told.{Told}
use Rattle.call_places.specs.Below.RpcClient.ToldOfOperation.{telling}
use Rattle.call_places.specs.Below.CallClient.ClientBetweenOperations.{Stand, stand, Acted}
use Rattle.call_places.specs.Below.CallClient.ClientRun.{Course, Ran, begins}
use Rattle.call_places.specs.Below.CallRun.Threads.{Thread, IsThread}
use Rattle.call_places.specs.sock_deeds.proofs.Flats.{flat_from, flat_there}
use Rattle.call_places.specs.sock_deeds.proofs.ListPlaces.{to_slice, place_low, place_there}
use Rattle.call_deeds.proofs.Ran.{Result, telling_of, results, results_long, result_at, told_is}

telling_one : (number : ℕ) (by : Option Outcome) (o : Outcome) → by ≡ Some o → get_elem? (telling number by) 0 ≡ some record { number = number; outcome = o }
telling_one number by o e = ap (λ b. get_elem? (telling number b) 0) e

telling_is : (number : ℕ) (by : Option Outcome) (j : ℕ) (t : Told) → get_elem? (telling number by) j ≡ some t → (t.number ≡ number) × (by ≡ Some t.outcome)
telling_is number None j t e = absurd (some-ne-none t (sym e))
telling_is number (Some by) zero t e = let q = some-injective (record { number = number; outcome = by }) t e in (ap (λ (x : Told). x.number) (sym q), ap (λ (x : Told). Some x.outcome) q)
telling_is number (Some by) (suc j) t e = absurd (some-ne-none t (sym e))

-- two tasks of a list with one number are one
pub one_place : (ts : List Task) → EachBefore Less ts → (j k : ℕ) (t u : Task) → get_elem? ts j ≡ some t → get_elem? ts k ≡ some u → t.number ≡ u.number → j ≡ k
one_place ts sorted j k t u e f same = dite (ℕ_discrete j k) (λ q. q) (λ ne. absurd (dite (dec_lt j k)
    (λ lt. (let r = before_at Less ts sorted j k t u lt (to_slice ts j t e) (to_slice ts k u f) in omega arith))
    (λ ge. (let r = before_at Less ts sorted k j u t (omega arith) (to_slice ts k u f) (to_slice ts j t e) in omega arith))))

module _ {O : Type 0} {g : Ghosts O} (state : O → OutState) (p : Plan) (q : id_plan.Plan) where
  -- of an `open` something is told
  open_none : (number : ℕ) (op : Op) (n k : ℕ) (by : Option Outcome) (s t : Stand g) → Acted state p q number op by s t → op ≡ ops.Open n k → by ≡ None → ⊥
  open_none number op n k by s t a is none_ = elim (subst (λ (b : Option Outcome). Acted state p q number (ops.Open n k) b s t) none_ (subst (λ o. Acted state p q number o by s t) is a)) [ ]

  opens_told : (xs : List Task) (m : ℕ) (s t : Course g) (h : Ran state p q xs m s t) (k n l : ℕ) (r : Result) → get_elem? (results state p q xs m s t h) k ≡ some r → r.task.op ≡ ops.Open n l → r.by ≡ None → ⊥
  opens_told xs zero s t e k n l r at is none_ = some-ne-none r (sym at)
  opens_told xs (suc m) s t h k n l r at is none_ = let last : Result = record { task = h.1; by = h.4.by } in elim (at_snoc (results state p q xs m s h.0 h.2) last k r at) [
    | old there lt ↦ opens_told xs m s h.0 h.2 k n l r there is none_
    | new place same ↦ open_none h.1.number h.1.op n l h.4.by h.4.ready t.has h.4.acted (ap (λ (x : Result). x.task.op) same ∙ is) (ap (λ (x : Result). x.by) same ∙ none_)
  ]

module _ {O : Type 0} {g : Ghosts O} {state : O → OutState} {p : Plan} {q : id_plan.Plan} {first : ℕ} (x : Thread g) (th : IsThread state p q first x) where
  -- where it had come by all its operations
  abbrev pub came : Course g
  came = record { has = stand th.ran.came; told = th.ran.came.outcomes.items; names = th.ran.ran.names }

  abbrev pub made : Ran state p q x.tasks th.ran.made (begins x.began) came
  made = th.ran.ran.ran

  -- its operations with what it told
  abbrev pub all_results : List Result
  all_results = results state p q x.tasks th.ran.made (begins x.began) came made

  abbrev pub told_by : List Told
  told_by = x.ended.outcomes.items

  tells_is : told_by ≡ flat_map telling_of all_results
  tells_is = ap (λ v. v.items) th.ran.told ∙ (told_is state p q x.tasks th.ran.made (begins x.began) came made ∙ ap (λ l. l ++ flat_map telling_of all_results) th.nothing.none_told)

  pub task_at : (k : ℕ) (r : Result) → get_elem? all_results k ≡ some r → get_elem? x.tasks k ≡ some r.task
  task_at k r at = result_at state p q x.tasks th.ran.made (begins x.began) came made k r at

  -- each task was made
  pub result_of : (k : ℕ) (t : Task) → get_elem? x.tasks k ≡ some t → (r : Result) × (get_elem? all_results k ≡ some r) × (r.task ≡ t)
  result_of k t at =
      let low = place_low x.tasks k t at in
      let long = results_long state p q x.tasks th.ran.made (begins x.began) came made in
      let all = th.ran.ends.0 in
      let r = place_there all_results k (omega arith) in
      (r.0, r.1, some-injective r.0.task t (sym (task_at k r.0 r.1) ∙ at))

  -- what came of an operation is told
  pub said_at : (k : ℕ) (r : Result) (o : Outcome) → get_elem? all_results k ≡ some r → r.by ≡ Some o → (i : ℕ) × (get_elem? told_by i ≡ some record { number = r.task.number; outcome = o })
  said_at k r o at by = let w = flat_there telling_of all_results k r 0 (record { number = r.task.number; outcome = o }) at (telling_one r.task.number r.by o by) in (w.0, ap (λ l. get_elem? l w.0) tells_is ∙ w.1)

  -- and what is told came of one
  pub said_of : (i : ℕ) (t : Told) → get_elem? told_by i ≡ some t → (k : ℕ) × (r : Result) × (get_elem? all_results k ≡ some r) × (t.number ≡ r.task.number) × (r.by ≡ Some t.outcome)
  said_of i t at = let w = flat_from telling_of all_results i t (ap (λ l. get_elem? l i) (sym tells_is) ∙ at) in let s = telling_is w.1.task.number w.1.by w.3 t w.4 in (w.0, w.1, w.2, s.0, s.1)

  -- of an operation of which nothing was told at once nothing is told
  pub unsaid_at : EachBefore Less x.tasks → (k : ℕ) (r : Result) → get_elem? all_results k ≡ some r → r.by ≡ None → (i : ℕ) (t : Told) → get_elem? told_by i ≡ some t → t.number ≢ r.task.number
  unsaid_at sorted k r at none_ i t there same =
      let w = said_of i t there in
      let place = one_place x.tasks sorted k w.0 r.task w.1.task (task_at k r at) (task_at w.0 w.1 w.2) (sym same ∙ w.3) in
      let one : r ≡ w.1 = some-injective r w.1 (sym at ∙ (ap (get_elem? all_results) place ∙ w.2)) in
      none-some t.outcome (sym none_ ∙ (ap (λ (y : Result). y.by) one ∙ w.4))

  -- of an `open` something is told
  pub open_said : (k n l : ℕ) (r : Result) → get_elem? all_results k ≡ some r → r.task.op ≡ ops.Open n l → (o : Outcome) × (r.by ≡ Some o)
  open_said k n l r at is = by_cases r.by refl
    where
      by_cases : (by : Option Outcome) → r.by ≡ by → (o : Outcome) × (r.by ≡ Some o)
      by_cases (Some o) e = (o, e)
      by_cases None e = absurd (opens_told state p q x.tasks th.ran.made (begins x.began) came made k n l r at is e)
