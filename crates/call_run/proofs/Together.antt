-- Clients and the readers beside them, over the same tables.
use Rattle.std.proofs.Common.{◌≡◌, ℕ, ◌+◌, List, [], ◌∷◌, ◌++◌, map, sym, ap, ◌∙◌, subst, arith}
use Rattle.std.specs.Prelude.{Option, IfOk}
use Rattle.std.specs.declared.result.Result.{Result}
use Rattle.std.specs.declared.result.Result.TheVariants.{Ok, Err}
use Rattle.atomic_table.specs.Seated.{TableId}
use Rattle.atomic_table.specs.declared.shared.Seat.{Seat}
use Rattle.sock_io.specs.declared.link.Out.{Ghosts}
use Rattle.sock_io.specs.LinkHalves.{OutState, InState}
use Rattle.sock_io.specs.Peer.{PeerState}
use Rattle.sock_words.specs.declared.plain.Plan.{Plan}
use Rattle.sock_model.specs.declared.view.View.{View}
use Rattle.sock_table.specs.ClosedSocketTable.{AllDone}
use Rattle.sock_open.specs.slot_steps.proofs.SlotWeightSums.{total-append}
use Rattle.corr_core.specs.declared.marks.Plan as id_plan
use Rattle.corr_core.specs.declared.marks.View as id_view
use Rattle.corr_id.specs.declared.table.IdTable.{IdTable}
use Rattle.corr_id.proofs.IdSeatSplits.{total_append}
use Rattle.sock_message.specs.Asked.{Asked}
use Rattle.seat_programs.specs.declared.task.Task.{Task}
use Rattle.link_crew.specs.declared.beside.Rest.{Rest}
use Rattle.call_run.specs.declared.leaving.Left.{Left}
use Rattle.call_run.specs.declared.links.LinksLeft.{LinksLeft}
use Rattle.call_run.specs.declared.beside.RanBeside.{RanBeside}
use Rattle.call_run.specs.Threads.{ids_of, RanWith}
use Rattle.call_run.specs.ReadersOfLinks.{LinkReader, AreReaders, AllServed, AreLeftBy}
use Rattle.call_run.specs.CrewOfRun.{IsLeft, AreLeft, CrewRan, HasEnded}
use Rattle.call_run.specs.LinksBesideClients.{LinksRan, BothEnded}
use Rattle.call_run.proofs.WholeRunOverTables.{ran_with}
use Rattle.sock_words.specs.Totals.{total as id_total}

-- ## The seats

module _ {S : Type 0} (z : TableId) (p : Plan) where
  done_both : (xs ys : List (Seat S View)) → AllDone z p xs → AllDone z p ys → AllDone z p (xs ++ ys)
  done_both [] ys a b = b
  done_both (x ∷ xs) ys a b = (a.0, done_both xs ys a.1 b)

  pub left_both : (n m k : ℕ) (xs ys : List (Seat S View)) → IsLeft z p n xs → IsLeft z p m ys → n + m ≡ k → IsLeft z p k (xs ++ ys)
  left_both n m k xs ys a b e = record { done = done_both xs ys a.done b.done; all = (let t = total-append (λ (s : Seat S View). s.me.0.share) xs ys in let u = a.all in let v = b.all in omega arith) }

ids_both : {C : Type 0} (y : TableId) (xs ys : List (Seat (Option C) (id_view.View C))) → AreLeft y xs → AreLeft y ys → AreLeft y (xs ++ ys)
ids_both y [] ys a b = b
ids_both y (x ∷ xs) ys a b = (a.0, ids_both y xs ys a.1 b)

-- ## What is left of the run

module _ {O I P E : Type 0} {g : Ghosts O} (state : O → OutState) (p : Plan) (l : Left O g) (k : LinksLeft O I P g) (table : IdTable Asked) where
  -- the seats of the ids are those of the table
  pub ids_beside : (q : id_plan.Plan) (n m : ℕ) (result : Result (RanBeside O I P) E) → table.plan ≡ q → AreLeft table.table.shared.table_id l.ids.items → AreLeft table.table.shared.table_id k.ids.items
      → id_total (λ (s : Seat (Option Asked) (id_view.View Asked)). s.me.0.share) l.ids.items ≡ n → id_total (λ (s : Seat (Option Asked) (id_view.View Asked)). s.me.0.share) k.ids.items ≡ m → n + m ≡ q.seats → IfOk result (BothEnded state p l k table)
      → IfOk result (λ r. (r.ran.ids.plan ≡ q) × AreLeft r.ran.ids.table.shared.table_id (r.ran.seats.items ++ r.ids.items) × (id_total (λ (s : Seat (Option Asked) (id_view.View Asked)). s.me.0.share) (r.ran.seats.items ++ r.ids.items) ≡ r.ran.ids.plan.seats))
  ids_beside q n m (Err x) is a b na mb all e = tt
  ids_beside q n m (Ok r) is a b na mb all e = let same = ap (λ t. t.plan) e.ended.ids ∙ is in (
    same,
    subst (λ t. AreLeft t.table.shared.table_id (r.ran.seats.items ++ r.ids.items)) (sym e.ended.ids) (subst (λ v. AreLeft table.table.shared.table_id (v.items ++ r.ids.items)) (sym e.ended.seats_are) (subst (λ v. AreLeft table.table.shared.table_id (l.ids.items ++ v.items)) (sym e.ids) (ids_both table.table.shared.table_id l.ids.items k.ids.items a b))),
    (λ i. id_total (λ (s : Seat (Option Asked) (id_view.View Asked)). s.me.0.share) ((e.ended.seats_are i).items ++ (e.ids i).items)) ∙ (total_append (λ (s : Seat (Option Asked) (id_view.View Asked)). s.me.0.share) l.ids.items k.ids.items ∙ (omega (arith, na, mb, all) ∙ sym (ap (λ x. x.seats) same))),
  )

  -- the run, with the readers of its links
  module _ (inn : I → InState) (peer : P → PeerState) (z : TableId) (plan : Plan) (y : TableId) (q : id_plan.Plan) (slots : ℕ) (s setup : List Task) (cs clients : List (List Task)) (opens calls : List ℕ) (rests all : List (Rest I P)) (pe : p ≡ plan) (qe : q ≡ ids_of plan slots) (se : s ≡ setup) (ce : cs ≡ clients) (re : rests ≡ all)
      (crew : CrewRan state z p y q s cs opens l) (links : LinksRan inn peer z p y q opens calls rests k) where
    pub beside_ran : (result : Result (RanBeside O I P) E) → IfOk result (BothEnded state p l k table)
        → IfOk result (λ r. (readers : List (LinkReader g))
        × RanWith g state readers plan slots setup clients opens (map (λ v. v.items) r.ran.told.items) (map (λ v. v.items) r.ran.ended.items) r.ran.places.items r.ran.vrefs.items r.ran.outs.items (map (λ (x : Seat (Option Asked) (id_view.View Asked)). x.me.0) r.ran.seats.items)
        × AreReaders plan (ids_of plan slots) calls 0 opens readers
        × AreLeftBy readers (map (λ (x : Rest I P). inn x.inn) all) (map (λ (x : Rest I P). inn x.inn) r.rests.items) (map (λ (x : Rest I P). peer x.peer) all) (map (λ (x : Rest I P). peer x.peer) r.rests.items) r.ids.items (map (λ v. v.items) r.told.items) (map (λ v. v.items) r.early.items))
    beside_ran (Err x) e = tt
    beside_ran (Ok r) e = let read = links.read e.calm in (
      read.readers,
      ran_with state read.readers z p plan y q slots s setup cs clients opens l table r.ran pe qe se ce crew (subst (λ xs. HasEnded state p (xs ++ l.seats.items) l table r.ran) (sym read.seats) e.ended) read.silent,
      subst (λ v. AreReaders v (ids_of plan slots) calls 0 opens read.readers) pe (subst (λ v. AreReaders p v calls 0 opens read.readers) qe read.are),
      record {
        before = read.left.before ∙ ap (map (λ (x : Rest I P). inn x.inn)) re;
        behind = read.left.behind ∙ ap (λ v. map (λ (x : Rest I P). inn x.inn) v.items) (sym e.rests);
        served = subst (λ xs. AllServed (map (λ (x : Rest I P). peer x.peer) xs) (map (λ (x : Rest I P). peer x.peer) r.rests.items)) re (subst (λ v. AllServed (map (λ (x : Rest I P). peer x.peer) rests) (map (λ (x : Rest I P). peer x.peer) v.items)) (sym e.rests) read.left.served);
        ids_are = read.left.ids_are ∙ ap (λ v. v.items) (sym e.ids);
        told_is = read.left.told_is ∙ ap (λ v. map (λ w. w.items) v.items) (sym e.told);
        early_is = read.left.early_is ∙ ap (λ v. map (λ w. w.items) v.items) (sym e.early);
      },
    )
