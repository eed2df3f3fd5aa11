-- Each id that a client made is that of a call of which it told nothing at once.
use Rattle.std.proofs.Common.{◌≡◌, ℕ, zero, suc, ◌+◌, ◌<◌, ◌≤◌, Option, Some, None, List, [], ◌∷◌, refl, ap, ◌∙◌, arith}
use mathlib.Core.Logic.{dite}
use mathlib.Core.Option.{some}
use native.Mathlib.Decide.{ℕ_discrete}
use lib.ListN.{get_elem?}
use Rattle.sock_io.specs.declared.link.Out.{Ghosts}
use Rattle.sock_io.specs.LinkHalves.{OutState}
use Rattle.sock_words.specs.declared.outcome.Outcome.{Outcome}
use Rattle.sock_words.specs.declared.outcome.Outcome.TheVariants as outcome
use Rattle.sock_words.specs.declared.plain.Plan.{Plan}
use Rattle.seat_programs.specs.declared.task.Op.{Op}
use Rattle.seat_programs.specs.declared.task.Op.TheVariants as ops
use Rattle.seat_programs.specs.declared.task.Task.{Task}
use Rattle.atomic_table.specs.Table.{Me}
use Rattle.corr_core.specs.declared.marks.Plan as id_plan
use Rattle.corr_core.specs.declared.marks.View.{View}
use Rattle.corr_core.proofs.NoteSums.{only-else, total_some}
use Rattle.corr_id.proofs.IdSeatSplits.{total_append}
use Rattle.sock_message.specs.Asked.{Asked}
use Rattle.attempts_told.specs.Below.CallErrors.ClientBooks.{CallStand, stand_of}
use Rattle.attempts_told.specs.Below.CallAttempts.ClientAtBothTables.{Both}
use Rattle.attempts_told.specs.Below.CallAttempts.WaitingRetries.{without_oldest, Retried, none_yet, one_more}
use Rattle.attempts_told.specs.Below.CallClient.ClientBetweenOperations.{Stand, stand, both_of, Acted}
use Rattle.attempts_told.specs.Below.CallClient.ClientRun.{Course, Ran, begins}
use Rattle.attempts_told.specs.Below.CallRun.Threads.{Thread, IsThread}
use Rattle.attempts_told.specs.call_whys.specs.call_places.specs.ClientNotesCounted.{makes}
use Rattle.attempts_told.specs.call_whys.specs.call_places.proofs.Still.{still_same, retried_still}
use Rattle.attempts_told.specs.call_whys.specs.call_places.proofs.RetryAndIdCounts.{call_in, acted_might}
use Rattle.attempts_told.specs.call_whys.specs.call_places.proofs.OwnAcceptedMessages.{end_is}
use Rattle.attempts_told.specs.call_whys.specs.call_deeds.proofs.Ran.{Result, results}
use Rattle.attempts_told.specs.call_whys.specs.call_deeds.proofs.OperationsToldOnce.{came, made, all_results}
use Rattle.sock_words.specs.Totals.{total}

-- 1 where it is the call of this operation, and nothing was told of it at once
abbrev call_begun : ℕ → Op → Option Outcome → ℕ
call_begun o op None = call_in o op
call_begun o op (Some by) = 0

abbrev begun_in : ℕ → Result → ℕ
begun_in o r = call_begun o r.task.op r.by

-- a retry makes none
retried_made : {O : Type 0} (state : O → OutState) (p : Plan) (q : id_plan.Plan) (o : ℕ) (s t : Both) (r : Retried state p q s t) → total (makes o) t.calls.view.notes ≤ total (makes o) s.calls.view.notes
retried_made state p q o s _ none_yet = omega arith
retried_made state p q o s _ (one_more u t r rest before waits fed by) = let a = retried_made state p q o s u before in let b = (retried_still state p q r (without_oldest rest u) t by).made o in omega arith

module _ {O : Type 0} {g : Ghosts O} (state : O → OutState) (p : Plan) (q : id_plan.Plan) (o : ℕ) where
  acted_made : (number : ℕ) (op : Op) (by : Option Outcome) (s t : Stand g) → Acted state p q number op by s t → total (makes o) t.calls.view.notes ≤ total (makes o) s.calls.view.notes + call_begun o op by
  acted_made number op None s t a = (acted_might state p q number op None s t a).made o
  acted_made number (ops.Call asked) (Some outcome.Unopened) s t a = let x = (still_same s.calls t.calls a.0.1).made o in omega arith
  acted_made number (ops.Call asked) (Some by) s t a = elim a [ ]
  acted_made number op (Some by) s t a = let x = (acted_might state p q number op (Some by) s t a).made o in omega arith

  ran_made : (xs : List Task) (n : ℕ) (s t : Course g) (h : Ran state p q xs n s t) → total (makes o) t.has.calls.view.notes ≤ total (makes o) s.has.calls.view.notes + total (begun_in o) (results state p q xs n s t h)
  ran_made xs zero s t e = let x = ap (λ (c : Course g). total (makes o) c.has.calls.view.notes) e in omega arith
  ran_made xs (suc n) s t h =
      let m = h.4 in
      let last : Result = record { task = h.1; by = m.by } in
      let a = ran_made xs n s h.0 h.2 in
      let b = retried_made state p q o (both_of h.0.has) (both_of m.ready) m.retried.all.retried in
      let c = acted_made h.1.number h.1.op m.by m.ready t.has m.acted in
      let d = total_append (begun_in o) (results state p q xs n s h.0 h.2) (last ∷ []) in omega arith

-- ## A whole client

-- the call of this operation, of which nothing was told at once
pub record IsBegun (o : ℕ) (r : Result) : Type 0 where
  pub asked : Asked
  pub op : r.task.op ≡ ops.Call asked
  pub operation : asked.operation ≡ o
  pub untold : r.by ≡ None

begun_by : (o : ℕ) (op : Op) (by : Option Outcome) → 0 < call_begun o op by → (asked : Asked) × (op ≡ ops.Call asked) × (asked.operation ≡ o) × (by ≡ None)
begun_by o (ops.Call asked) None h = (asked, refl, dite (ℕ_discrete asked.operation o) (λ e. e) (λ ne. absurd (let a = only-else o asked.operation ne in omega (arith, a, h))), refl)
begun_by o op None h = absurd (omega arith)
begun_by o op (Some by) h = absurd (omega arith)

module _ {O : Type 0} {g : Ghosts O} {state : O → OutState} {p : Plan} {q : id_plan.Plan} {first : ℕ} (x : Thread g) (th : IsThread state p q first x) (o : ℕ) where
  all_made : total (makes o) x.ended.calls.seat.me.0.notes ≤ total (begun_in o) (all_results x th)
  all_made =
      let end : stand_of x.ended.calls ≡ th.ran.last.calls = th.ran.calls ∙ ap (λ (s : Stand g). s.calls) (end_is x th) in
      let e = ap (λ (c : CallStand). total (makes o) c.view.notes) end in
      let a = ran_made state p q o x.tasks th.ran.made (begins x.began) (came x th) (made x th) in
      let b = retried_made state p q o (both_of (stand th.ran.came)) (both_of th.ran.last) th.ran.ends.1.all.retried in
      let c = ap (λ (m : Me (Option Asked) (View Asked)). total (makes o) m.0.notes) th.ids in omega arith

  -- an id of this operation's call was made for one of the client's calls
  pub made_begun : 0 < total (makes o) x.ended.calls.seat.me.0.notes → (k : ℕ) × (r : Result) × (get_elem? (all_results x th) k ≡ some r) × IsBegun o r
  made_begun some_ =
      let w = total_some (begun_in o) (all_results x th) (let a = all_made in omega arith) in
      let b = begun_by o w.1.task.op w.1.by w.3 in (w.0, w.1, w.2, record { asked = b.0; op = b.1; operation = b.2; untold = b.3 })
