-- Whoever stored an id where the word of an operation is made it for that operation's call.
use Rattle.std.proofs.Common.{◌≡◌, ℕ, zero, suc, ◌<◌, inl, inr, ◌⊎◌, List, ap, subst, arith}
use Rattle.std.specs.List.{AllByRecursion}
use mathlib.Core.Logic.{dite}
use mathlib.Core.Option.{some}
use native.Mathlib.Decide.{ℕ_discrete}
use lib.ListN.{get_elem?}
use Rattle.sock_io.specs.declared.link.Out.{Ghosts}
use Rattle.sock_io.specs.LinkHalves.{OutState}
use Rattle.sock_words.specs.declared.plain.Plan.{Plan}
use Rattle.seat_programs.specs.declared.task.Op.TheVariants as ops
use Rattle.seat_programs.specs.declared.task.Task.{Task}
use Rattle.corr_core.specs.declared.marks.Plan as id_plan
use Rattle.corr_core.specs.declared.marks.View.{View}
use Rattle.corr_core.proofs.NoteSums.{only-else}
use Rattle.id_rule.specs.LawfulIdTable.{call_index}
use Rattle.sock_message.specs.Asked.{Asked}
use Rattle.call_told.specs.Below.CallClient.ClientBetweenOperations.{both_of}
use Rattle.call_told.specs.Below.CallClient.ClientRun.{Course, Made, Ran}
use Rattle.call_told.specs.Least.{HasBegun}
use Rattle.call_told.proofs.GrowingCallNotes.{Grows, own_at}
use Rattle.call_told.proofs.ListElementsByPlace.{all_at}
use Rattle.call_told.proofs.ClientTellingMoves.{Fits, Moves, retried_here, begun_by, BeginsCall, acted_or, made_moves}
use Rattle.call_told.proofs.Coming.{begun_later, made_begun}
use Rattle.sock_words.specs.Totals.{total}

module _ (q : id_plan.Plan) where
  -- one of the first operations is this call, and it has begun
  pub record BegunIn (o : ℕ) (xs : List Task) (v : View Asked) : Type 0 where
    pub place : ℕ
    pub task : Task
    pub there : get_elem? xs place ≡ some task
    pub asked : Asked
    pub is_call : task.op ≡ ops.Call asked
    pub operation : asked.operation ≡ o
    pub id : ℕ
    pub begun : HasBegun q o id v

  stays : (o : ℕ) (xs : List Task) (n : ℕ) (v w : View Asked) → Grows (call_index q o) n v w → BegunIn o xs v → BegunIn o xs w
  stays o xs n v w grows b = record { place = b.place; task = b.task; there = b.there; asked = b.asked; is_call = b.is_call; operation = b.operation; id = b.id; begun = begun_later q (call_index q o) n o b.id v w grows b.begun }

  module _ {O : Type 0} (state : O → OutState) (p : Plan) where
    module _ {g : Ghosts O} (o : ℕ) where
      -- no id was stored for it yet, and then one is
      made_stored : (xs : List Task) (n : ℕ) (x : Task) (s t : Course g) → get_elem? xs n ≡ some x → Made state p q x s t → total (own_at (call_index q o)) s.has.calls.view.kept ≡ 0 → 0 < total (own_at (call_index q o)) t.has.calls.view.kept → BegunIn o xs t.has.calls.view
      made_stored xs n x s t at m none_ some_ =
          let waited = (retried_here q o state p s.has m.ready m.retried).grows.own in
          by (acted_or q o state p x.number x.op m.by m.ready t.has m.acted) (omega arith)
        where
          begins : BeginsCall q o state p x.op m.ready t.has → total (own_at (call_index q o)) m.ready.calls.view.kept ≡ 0 → BegunIn o xs t.has.calls.view
          begins b zero_ = dite (ℕ_discrete b.asked.operation o)
              (λ e. record { place = n; task = x; there = at; asked = b.asked; is_call = b.is_call; operation = e; id = b.id; begun = subst (λ (y : ℕ). HasBegun q y b.id t.has.calls.view) e (made_begun q state p b.asked b.id (both_of m.ready) (both_of t.has) b.called) })
              (λ ne. absurd (let a = (begun_by q o state p b.asked b.id (both_of m.ready) (both_of t.has) b.called).grows.own in let c = only-else o b.asked.operation ne in omega (arith, some_, zero_, a, c)))

          by : Moves q o 0 m.ready.calls t.has.calls ⊎ BeginsCall q o state p x.op m.ready t.has → total (own_at (call_index q o)) m.ready.calls.view.kept ≡ 0 → BegunIn o xs t.has.calls.view
          by (inl goes) zero_ = absurd (let a = goes.grows.own in omega (arith, some_, zero_, a))
          by (inr b) zero_ = begins b zero_

      pub ran_stored : (xs : List Task) → AllByRecursion Fits xs → (n : ℕ) (s t : Course g) → Ran state p q xs n s t → total (own_at (call_index q o)) s.has.calls.view.kept ≡ 0 → 0 < total (own_at (call_index q o)) t.has.calls.view.kept → BegunIn o xs t.has.calls.view
      ran_stored xs fits zero s t h none_ some_ = absurd (let e = ap (λ (c : Course g). total (own_at (call_index q o)) c.has.calls.view.kept) h in omega (arith, none_, some_, e))
      ran_stored xs fits (suc n) s t h none_ some_ = dite (ℕ_discrete (total (own_at (call_index q o)) h.0.has.calls.view.kept) 0)
          (λ z. made_stored xs n h.1 h.0 t h.3 h.4 z some_)
          (λ ne. stays o xs _ h.0.has.calls.view t.has.calls.view (made_moves q o state p h.1 h.0 t (all_at Fits xs n h.1 fits h.3) h.4).grows (ran_stored xs fits n s h.0 h.2 none_ (omega (arith, ne))))
