-- A message that is accepted or refused, and what the seat has then.
use Rattle.std.proofs.Common.{◌≡◌, ℕ, Option, Some, None, List, [], ◌∷◌, refl, sym, ap, ◌∙◌, subst, arith}
use Rattle.atomic_table.specs.Seated.{TableId}
use Rattle.atomic_table.specs.declared.shared.Seat.{Seat}
use Rattle.sock_io.specs.declared.link.Out.{Ghosts}
use Rattle.sock_io.specs.LinkHalves.{OutState}
use Rattle.sock_words.specs.declared.plain.Plan.{Plan}
use Rattle.sock_words.specs.declared.outcome.Outcome.{Outcome}
use Rattle.sock_words.specs.declared.outcome.Outcome.TheVariants as outcome
use Rattle.sock_words.specs.PackedWords.{socket_id_version, socket_id_slot}
use Rattle.sock_model.specs.declared.chain.Heading.{Heading}
use Rattle.sock_model.specs.declared.marks.Mark.{Mark}
use Rattle.sock_model.specs.declared.marks.Mark.TheVariants.{Saw}
use Rattle.sock_model.specs.declared.view.View.{View}
use Rattle.sock_model.specs.MarkWeights.{is_ref}
use Rattle.write_chain.specs.message_parts.specs.Parcels.{parcel_of}
use Rattle.sock_rule.specs.SocketSeatSplits.{IsSeat}
use Rattle.sock_rule.specs.declared.homes.Letter.{Letter}
use Rattle.sock_table.specs.ReferenceCalls.{IsBetween}
use Rattle.sock_table.specs.ReferenceAnswers.{Holds}
use Rattle.sock_table.specs.declared.refs.SockRef.{SockRef}
use Rattle.sock_table.proofs.QuietBetweenCalls.{saw_between}
use Rattle.write_chain.specs.declared.entry.Started.{Started}
use Rattle.write_chain.specs.declared.entry.Started.TheVariants as started
use Rattle.write_chain.specs.declared.entry.Refused.{Refused}
use Rattle.write_chain.specs.declared.entry.Refused.TheVariants as refused
use Rattle.write_chain.specs.SendingIntoChain.{HasRoom, Accepted, StartedBy, RefusedBy}
use Rattle.rpc_client.specs.SeatBetweenOperations.{Idle, StaysSeen, SameRefs, OneMore}
use Rattle.rpc_client.specs.SendingOutcomes.{RefusedHolds, RefusedAs, Returned, CameBack, DeliveredBy}
use Rattle.rpc_client.proofs.CountedReferences.{same_refs, then_more, given}
use Rattle.rpc_client.proofs.FindingReferences.{holds_still, seen_same, seen_then, seen_became}
use Rattle.rpc_client.proofs.WritingUntilHeadEmpty.{all_refs}
use Rattle.write_chain.specs.ReadyToSend.{sock_of}
use Rattle.sock_words.specs.Totals.{total}

-- ## Accepted

module _ {O : Type 0} {g : Ghosts O} (p : Plan) (sock : SockRef) (heading : Heading) (bytes : List ℕ) where
  pub sock_is : (s : Started O g) (v w : View) → StartedBy p sock heading bytes s v w → sock_of s ≡ sock
  sock_is (started.Queued r) v w b = b.0
  sock_is (started.Right r) v w b = b.0

  pub accepted_of : (s : Started O g) (v w : View) → StartedBy p sock heading bytes s v w → Accepted (Saw (socket_id_version sock.id.0) ∷ []) p sock.id.0 heading bytes v w
  accepted_of (started.Queued r) v w b = b.1
  accepted_of (started.Right r) v w b = b.2

pub accepted_refs : (notes : List Mark) (p : Plan) (id : ℕ) (heading : Heading) (bytes : List ℕ) (v w : View) → total is_ref notes ≡ 0 → Accepted notes p id heading bytes v w → SameRefs v w
accepted_refs notes p id heading bytes v w none_ a = let r = same_refs (socket_id_slot id) v (record v { marks = w.marks }) _ [] a.marks (omega arith) refl in record { refs = λ i. r.refs i; lives = λ i h. r.lives i h }

-- ## Refused

pub refused_refs : (p : Plan) (sock : SockRef) (msg : Letter) (r : Refused) (v w : View) → RefusedBy p sock msg r v w → SameRefs v w
refused_refs p sock msg (refused.Failed s m found) v w b = same_refs (socket_id_slot sock.id.0) v w _ [] b.3 refl refl
refused_refs p sock msg (refused.Full s m) v w b = let r = same_refs (socket_id_slot sock.id.0) v (record v { marks = w.marks }) _ [] b.7 refl refl in record { refs = λ i. r.refs i; lives = λ i h. r.lives i h }

pub refused_holds : (p : Plan) (sock : SockRef) (msg : Letter) (r : Refused) (v w : View) → Holds p v sock.id.0 → RefusedBy p sock msg r v w → RefusedHolds p r w
refused_holds p sock msg (refused.Failed s m found) v w h b = subst (λ (y : SockRef). Holds p w y.id.0) (sym b.0) (holds_still p sock.id.0 v w h (refused_refs p sock msg (refused.Failed s m found) v w b))
refused_holds p sock msg (refused.Full s m) v w h b = subst (λ (y : SockRef). Holds p w y.id.0) (sym b.0) (holds_still p sock.id.0 v w h (refused_refs p sock msg (refused.Full s m) v w b))

refused_between : (p : Plan) (sock : SockRef) (msg : Letter) (r : Refused) (v w : View) → IsBetween p v → RefusedBy p sock msg r v w → IsBetween p w
refused_between p sock msg (refused.Failed s m found) v w i b = saw_between p (socket_id_slot sock.id.0) _ v w i b.3
refused_between p sock msg (refused.Full s m) v w i b = let y = saw_between p (socket_id_slot sock.id.0) _ v (record v { marks = w.marks }) i b.7 in let e = b.8 in record {
  unclaimed = y.unclaimed;
  unprobed = y.unprobed;
  uncoding = y.uncoding;
  no_zero = y.no_zero;
  no_rights = ap (λ (x : View). x.rights) e ∙ i.no_rights;
  empty = ap (λ (x : View). x.hands) e ∙ i.empty;
  no_passes = ap (λ (x : View). x.passes) e ∙ i.no_passes;
}

-- all else but notes is as it was
refused_claims : (p : Plan) (sock : SockRef) (msg : Letter) (r : Refused) (v w : View) → RefusedBy p sock msg r v w → (w.claims ≡ v.claims) × (w.loose ≡ v.loose) × (w.share ≡ v.share) × (w.lists ≡ v.lists)
refused_claims p sock msg (refused.Failed s m found) v w b = let e = b.3.others in (ap (λ (x : View). x.claims) e, ap (λ (x : View). x.loose) e, ap (λ (x : View). x.share) e, ap (λ (x : View). x.lists) e)
refused_claims p sock msg (refused.Full s m) v w b = let e = b.8 in (ap (λ (x : View). x.claims) e, ap (λ (x : View). x.loose) e, ap (λ (x : View). x.share) e, ap (λ (x : View). x.lists) e)

pub refused_idle : {S : Type 0} (z : TableId) (p : Plan) (sock : SockRef) (msg : Letter) (r : Refused) (s t : Seat S View) → Idle z p s → IsSeat z p t → t.me.1 ≡ s.me.1 → RefusedBy p sock msg r s.me.0 t.me.0 → Idle z p t
refused_idle z p sock msg r s t idle seat slots b = let e = refused_claims p sock msg r s.me.0 t.me.0 b in record { seat = seat; slots = slots ∙ idle.slots; between = refused_between p sock msg r s.me.0 t.me.0 idle.between b; claims = e.0 ∙ idle.claims; loose = e.1 ∙ idle.loose }

pub came_back : {O : Type 0} (state : O → OutState) (p : Plan) (sock : SockRef) (msg : Letter) (r : Refused) (o : Outcome) (v t w : View) → RefusedBy p sock msg r v t → RefusedAs r o t w → DeliveredBy state p sock msg (Some o) v w
came_back state p sock msg (refused.Failed s m found) o v t w b a = subst (λ (y : Outcome). DeliveredBy state p sock msg (Some y) v w) (sym a.0) record { refused_at = t; refused_by = (refl, refl, b.2, b.3); returned = subst (λ (y : SockRef). Returned y.id.0 t w) b.0 a.1 }
came_back state p sock msg (refused.Full s m) o v t w b a = subst (λ (y : Outcome). DeliveredBy state p sock msg (Some y) v w) (sym a.0) record { refused_at = t; refused_by = (refl, refl, b.2, b.3, b.4, b.5, b.6, b.7, b.8, b.9); returned = subst (λ (y : SockRef). Returned y.id.0 t w) b.0 a.1 }

-- ## The reference is given back in each case

module _ {O : Type 0} (state : O → OutState) (p : Plan) (sock : SockRef) (msg : Letter) where
  came_refs : (r : Refused) (u v w : View) → OneMore sock.id.0 u v → CameBack p sock msg r v w → SameRefs u w
  came_refs r u v w one c = given sock.id.0 u c.refused_at w c.returned.ended (then_more sock.id.0 u v c.refused_at one (refused_refs p sock msg r v c.refused_at c.refused_by)) c.returned.back

  pub delivered_refs : (o : Option Outcome) (u v w : View) → OneMore sock.id.0 u v → DeliveredBy state p sock msg o v w → SameRefs u w
  delivered_refs None u v w one c = given sock.id.0 u c.through.wrote w c.through.returned.ended (then_more sock.id.0 u c.taken c.through.wrote (then_more sock.id.0 u v c.taken one (accepted_refs (Saw (socket_id_version sock.id.0) ∷ []) p sock.id.0 _ (parcel_of msg.bytes).bytes v c.taken refl c.accepted)) (all_refs p sock.id.0 c.taken c.through.wrote c.through.by)) c.through.returned.back
  delivered_refs (Some (outcome.Gone found)) u v w one c = came_refs (refused.Failed sock msg found) u v w one c
  delivered_refs (Some outcome.Full) u v w one c = came_refs (refused.Full sock msg) u v w one c
  delivered_refs (Some _) u v w one c = elim c [ ]

  came_share : (r : Refused) (v w : View) → CameBack p sock msg r v w → w.share ≡ v.share
  came_share r v w c = ap (λ (y : View). y.share) c.returned.back.became.others ∙ (refused_claims p sock msg r v c.refused_at c.refused_by).2

  pub delivered_share : (o : Option Outcome) (v w : View) → DeliveredBy state p sock msg o v w → w.share ≡ v.share
  delivered_share None v w c = ap (λ (y : View). y.share) c.through.returned.back.became.others ∙ (ap (λ (y : View). y.share) c.through.by.became.others ∙ c.accepted.share)
  delivered_share (Some (outcome.Gone found)) v w c = came_share (refused.Failed sock msg found) v w c
  delivered_share (Some outcome.Full) v w c = came_share (refused.Full sock msg) v w c
  delivered_share (Some _) v w c = elim c [ ]

-- its own list has room where it is as it was
pub room_still : (v w : View) → w.lists ≡ v.lists → HasRoom v → HasRoom w
room_still v w e r = record { made = r.made; taken_in = r.taken_in; lists = e ∙ r.lists; room = r.room }

-- ## What was seen is seen still

refused_seen : (p : Plan) (sock : SockRef) (msg : Letter) (r : Refused) (v w : View) → RefusedBy p sock msg r v w → StaysSeen v w
refused_seen p sock msg (refused.Failed s m found) v w b = seen_became (socket_id_slot sock.id.0) v w _ _ b.3
refused_seen p sock msg (refused.Full s m) v w b = b.9

module _ {O : Type 0} (state : O → OutState) (p : Plan) (sock : SockRef) (msg : Letter) where
  returned_seen : (id : ℕ) (v w : View) → Returned id v w → StaysSeen v w
  returned_seen id v w r = seen_became (socket_id_slot id) v w _ _ r.back.became

  came_seen : (r : Refused) (v w : View) → CameBack p sock msg r v w → StaysSeen v w
  came_seen r v w c = seen_then v c.refused_at w (refused_seen p sock msg r v c.refused_at c.refused_by) (returned_seen sock.id.0 c.refused_at w c.returned)

  pub delivered_seen : (o : Option Outcome) (v w : View) → DeliveredBy state p sock msg o v w → StaysSeen v w
  delivered_seen None v w c = seen_then v c.taken w c.accepted.seen (seen_then c.taken c.through.wrote w (seen_same c.taken c.through.wrote (ap (λ (y : View). y.found) c.through.by.became.others)) (returned_seen sock.id.0 c.through.wrote w c.through.returned))
  delivered_seen (Some (outcome.Gone found)) v w c = came_seen (refused.Failed sock msg found) v w c
  delivered_seen (Some outcome.Full) v w c = came_seen (refused.Full sock msg) v w c
  delivered_seen (Some _) v w c = elim c [ ]

-- a message that came back is in no list
pub came_lists : (p : Plan) (sock : SockRef) (msg : Letter) (r : Refused) (v w : View) → CameBack p sock msg r v w → w.lists ≡ v.lists
came_lists p sock msg r v w c = ap (λ (y : View). y.lists) c.returned.back.became.others ∙ (refused_claims p sock msg r v c.refused_at c.refused_by).3
