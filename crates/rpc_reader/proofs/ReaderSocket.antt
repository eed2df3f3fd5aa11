-- The socket of a reader's link.
use Rattle.std.proofs.Common.{◌≡◌, ℕ, ◌<◌, Bool, [], Some, None, inr, sym, ap, subst, arith}
use Rattle.std.specs.Prelude.{Option}
use Rattle.atomic_table.specs.Seated.{TableId}
use Rattle.atomic_table.specs.declared.shared.Seat.{Seat}
use Rattle.sock_words.specs.declared.plain.Plan.{Plan}
use Rattle.sock_words.specs.declared.socket_id.SocketId.{SocketId}
use Rattle.sock_words.specs.declared.outcome.Outcome.{Outcome}
use Rattle.sock_words.specs.PackedWords.{socket_id_slot, socket_id_version}
use Rattle.sock_model.specs.declared.marks.Mark.TheVariants.{Hold}
use Rattle.sock_model.specs.declared.view.View.{View}
use Rattle.sock_model.specs.MarkWeights.{is_ref}
use Rattle.sock_model.specs.SlotRows.{marks_of}
use Rattle.sock_model.specs.SocketTableLayout.{open_index}
use Rattle.sock_table.specs.ReferenceCalls.{GaveBack, Knows, MayAddress}
use Rattle.sock_table.specs.ReferenceAnswers.{Held, Holds, NoneLater}
use Rattle.sock_table.specs.ClosedSocketTable.{IsDoneSeat}
use Rattle.sock_table.specs.declared.refs.SockRef.{SockRef}
use Rattle.rpc_client.specs.SeatBetweenOperations.{Idle, MayAct, StaysSeen, SameRefs, OneMore}
use Rattle.rpc_client.specs.HoldAndDropOutcomes.{IsHolder}
use Rattle.rpc_client.specs.FailOutcomes.{SetBy}
use Rattle.rpc_client.proofs.CountedReferences.{refs_none, finds_refs, one_more, given, then_more}
use Rattle.rpc_client.proofs.FindingReferences.{seen_found, seen_more, has_one, set_refs}
use Rattle.rpc_reader.specs.ReaderSocketFailing.{OpenedBy, FailedBy}

module _ (p : Plan) (o : ℕ) (v w : View) where
  pub opened_refs : (r : Option SocketId) → OpenedBy p o r v w → SameRefs v w
  opened_refs (Some id) h = finds_refs (open_index p o) id.0 v w h.1
  opened_refs None h = refs_none v w (ap (λ (y : View). y.marks) h.view)

  pub opened_seen : (r : Option SocketId) → OpenedBy p o r v w → StaysSeen v w
  opened_seen (Some id) h = seen_found (open_index p o) id.0 v w h.1
  opened_seen None h = seen_more (open_index p o) v w (ap (λ (y : View). y.found) h.view)

module _ {S : Type 0} (z : TableId) (p : Plan) where
  -- a seat without references that rests is done
  pub idle_done : (s : Seat S View) → Idle z p s → IsHolder p [] s.me.0 → IsDoneSeat z p s
  idle_done s i h = record {
    seat = i.seat;
    slots = i.slots;
    done = record { bare = record { claims = i.claims; loose = i.loose; rights = i.between.no_rights; hands = i.between.empty }; unheld = λ k kl. h.refs k };
    rest = record { unclaimed = i.between.unclaimed; uncoding = i.between.uncoding; no_zero = i.between.no_zero; no_passes = i.between.no_passes };
  }

  pub none_may : (s : Seat S View) → Idle z p s → IsHolder p [] s.me.0 → MayAct z p s
  none_may s i h = record { idle = i; room = λ k kl. (let a = h.refs k in omega arith) }

  pub may_reach : (s : Seat S View) (id : ℕ) → MayAct z p s → Knows p s.me.0 id → MayAddress p s.me.0 id
  may_reach s id may k = record { inside = k.inside; known = k.known; room = may.room (socket_id_slot id) k.inside }

  -- the reference that came by the id
  module _ (id : SocketId) (sock : SockRef) (s : Seat S View) (u : View) (same : (sock.id ≡ id) × Held id.0 s.me.0 u) where
    pub came_one : OneMore sock.id.0 s.me.0 u
    came_one = subst (λ (y : SocketId). OneMore y.0 s.me.0 u) (sym same.0) (one_more id.0 s.me.0 u same.1)

    pub came_held : MayAct z p s → Knows p s.me.0 id.0 → Holds p u sock.id.0 × (marks_of is_ref (socket_id_slot sock.id.0) u < 65540)
    came_held may k = has_one z p sock.id.0 s u may (subst (λ (y : SocketId). socket_id_slot y.0 < p.slots) (sym same.0) k.inside) came_one

    pub came_set : (code : ℕ) (by : Outcome) (ended : Bool) (t w : View) → NoneLater id.0 s.me.0 → SetBy sock.id.0 code by u t → GaveBack (socket_id_slot sock.id.0) t w (Hold (socket_id_version sock.id.0)) ended → FailedBy id.0 code s.me.0 w
    came_set code by ended t w live set back = inr record {
      has = u;
      held = same.1;
      live = live;
      by = by;
      set = t;
      set_by = subst (λ (y : SocketId). SetBy y.0 code by u t) same.0 set;
      returned = record { ended = ended; back = subst (λ (y : SocketId). GaveBack (socket_id_slot y.0) t w (Hold (socket_id_version y.0)) ended) same.0 back };
    }

    pub came_refs : (code : ℕ) (by : Outcome) (ended : Bool) (t w : View) → SetBy sock.id.0 code by u t → GaveBack (socket_id_slot sock.id.0) t w (Hold (socket_id_version sock.id.0)) ended → SameRefs s.me.0 w
    came_refs code by ended t w set back = given sock.id.0 s.me.0 t w ended (then_more sock.id.0 s.me.0 u t came_one (set_refs sock.id.0 code by u t set)) back
