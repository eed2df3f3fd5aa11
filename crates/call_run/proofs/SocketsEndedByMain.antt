-- The sockets of a run, which main ends.
use Rattle.std.proofs.Common.{◌≡◌, ℕ, ◌+◌, ◌<◌, List, [], ◌∷◌, ◌++◌, length, take, get_or, refl, sym, ap, ◌∙◌, subst, arith}
use Rattle.std.proofs.lemmas.List.{take_more}
use Rattle.atomic_table.specs.Seated.{TableId}
use Rattle.atomic_table.specs.declared.shared.Seat.{Seat}
use Rattle.sock_words.specs.declared.plain.Plan.{Plan}
use Rattle.sock_model.specs.declared.view.View.{View}
use Rattle.sock_table.specs.ClosedSocketTable.{IsDoneSeat, AllDone}
use Rattle.sock_open.proofs.SeatsHoldingNothing.{done_between}
use Rattle.call_client.specs.rpc_client.specs.SeatBetweenOperations.{Idle, MayAct, SameRefs}
use Rattle.call_run.specs.CrewOfRun.{IsLeft}
use Rattle.call_run.specs.EndingOfSockets.{EndedOne, EndedEach}
use Rattle.sock_words.specs.Totals.{total}

module _ {S : Type 0} (z : TableId) (p : Plan) where
  -- a seat that is done is idle, and keeps no reference
  pub done_idle : (s : Seat S View) → IsDoneSeat z p s → Idle z p s
  done_idle s d = record { seat = d.seat; slots = d.slots; between = done_between z p s d; claims = d.done.bare.claims; loose = d.done.bare.loose }

  -- with as many references as one that is done it may act, and is done itself
  module _ (s t : Seat S View) (d : IsDoneSeat z p s) (idle : Idle z p t) (refs : SameRefs s.me.0 t.me.0) where
    pub still_may : MayAct z p t
    still_may = record { idle = idle; room = λ i il. (let a = d.done.unheld i il in let b = refs.refs i in omega arith) }

    pub still_done : IsDoneSeat z p t
    still_done = record {
      seat = idle.seat;
      slots = idle.slots;
      done = record { bare = record { claims = idle.claims; loose = idle.loose; rights = idle.between.no_rights; hands = idle.between.empty }; unheld = λ i il. refs.refs i ∙ d.done.unheld i il };
      rest = record { unclaimed = idle.between.unclaimed; uncoding = idle.between.uncoding; no_zero = idle.between.no_zero; no_passes = idle.between.no_passes };
    }

  -- one seat that took in these, and went on, stands for them alone
  pub left_alone : (seats behind : List (Seat S View)) (s t : Seat S View) → s.me.0.share ≡ total (λ (x : Seat S View). x.me.0.share) seats → IsDoneSeat z p t → t.me.0.share ≡ s.me.0.share → behind ≡ t ∷ [] → IsLeft z p (total (λ (x : Seat S View). x.me.0.share) seats) behind
  left_alone seats behind s t took done went is = record {
    done = subst (AllDone z p) (sym is) (done, tt);
    all = ap (total (λ (x : Seat S View). x.me.0.share)) is ∙ omega (arith, took, went);
  }

-- one more socket was ended
module _ (p : Plan) where
  ended_more : (os : List ℕ) (o : ℕ) (v u w : View) → EndedEach p os v u → EndedOne p o u w → EndedEach p (os ++ o ∷ []) v w
  ended_more [] o v u w a e = (w, subst (λ (x : View). EndedOne p o x w) a e, refl)
  ended_more (x ∷ os) o v u w a e = (a.0, a.1, ended_more os o a.0 u w a.2 e)

  pub ended_next : (os : List ℕ) (i : ℕ) (v u w : View) → i < length os → EndedEach p (take i os) v u → EndedOne p (get_or os i 0) u w → EndedEach p (take (i + 1) os) v w
  ended_next os i v u w lt a e = subst (λ l. EndedEach p l v w) (sym (take_more os i 0 lt)) (ended_more (take i os) (get_or os i 0) v u w a e)
