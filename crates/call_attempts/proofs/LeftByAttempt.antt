-- What an attempt leaves of a client at both tables.
use Rattle.std.proofs.Common.{◌≡◌, ℕ, ◌+◌, ◌<◌, ◌≤◌, ◌⊎◌, inl, inr, Bool, true, Some, None, [], ◌∷◌, ◌++◌, length-append, refl, sym, ap, ◌∙◌, subst, arith}
use Rattle.std.specs.Prelude.{Option as Maybe, IfErr}
use Rattle.std.specs.declared.result.Result.{Result}
use Rattle.std.specs.declared.result.Result.TheVariants.{Ok, Err}
use Rattle.atomic_table.specs.Seated.{TableId}
use Rattle.atomic_table.specs.declared.shared.Seat.{Seat}
use Rattle.sock_io.specs.LinkHalves.{OutState}
use Rattle.sock_words.specs.ErrorCodes.{EFAILEDSOCKET, EREQUESTS}
use Rattle.sock_words.specs.declared.vref.Vref.{Vref}
use Rattle.sock_words.specs.declared.plain.Plan.{Plan}
use Rattle.sock_words.specs.declared.socket_id.SocketId.{SocketId}
use Rattle.sock_words.specs.declared.outcome.Outcome.{Outcome}
use Rattle.sock_words.specs.declared.outcome.Outcome.TheVariants as outcome
use Rattle.sock_words.specs.PackedWords.{socket_id_version, socket_id_slot}
use Rattle.sock_model.specs.declared.chain.Entry.{Entry}
use Rattle.sock_model.specs.declared.marks.Mark.TheVariants.{Saw}
use Rattle.sock_model.specs.declared.view.View.{View}
use Rattle.sock_model.specs.ChainRows.{more}
use Rattle.sock_model.specs.SocketTableLayout.{name_index}
use Rattle.sock_rule.specs.Shows.{heading_of}
use Rattle.sock_rule.specs.declared.homes.Letter.{Letter}
use Rattle.sock_model.specs.SlotRows.{marks_of}
use Rattle.sock_model.specs.MarkWeights.{is_ref}
use Rattle.sock_rule.specs.SocketSeatSplits.{IsSeat}
use Rattle.sock_table.specs.ReferenceCalls.{IsBetween, SameTokens}
use Rattle.sock_table.specs.ReferenceAnswers.{LinkOf}
use Rattle.sock_table.specs.NamesStoredAndFound.{Found}
use Rattle.sock_table.specs.declared.refs.SockRef.{SockRef}
use Rattle.write_chain.specs.declared.entry.Refused.{Refused}
use Rattle.write_chain.specs.declared.entry.Refused.TheVariants as refused
use Rattle.write_chain.specs.SendingIntoChain.{HasRoom, RefusedBy}
use Rattle.corr_core.specs.declared.marks.Plan as id_plan
use Rattle.corr_core.specs.declared.marks.View as id_view
use Rattle.id_rule.specs.LawfulIdTable.{tokens_in, with_kept}
use Rattle.corr_id.specs.IdTableSeat.{Sits, Stays, IsFree}
use Rattle.corr_id.proofs.TestingOneLock.{sits_on}
use Rattle.sock_message.specs.Asked.{Asked}
use Rattle.call_errors.specs.rpc_client.specs.SeatBetweenOperations.{MayAct, StaysSeen, SameRefs, OneMore}
use Rattle.call_errors.specs.rpc_client.specs.AcceptedClientMessages.{OwnList}
use Rattle.call_errors.specs.rpc_client.specs.SendingOutcomes as sending
use Rattle.call_errors.specs.rpc_client.proofs.CountedReferences as counting
use Rattle.call_errors.specs.rpc_client.proofs.CountedReferences.{same_refs, refs_then, refs_none, then_more, given, gone_refs, finds_refs}
use Rattle.call_errors.specs.rpc_client.proofs.FindingReferences.{rest_same, rest_then, seen_same, seen_then, seen_became, seen_found}
use Rattle.call_errors.specs.rpc_client.proofs.SeatBehindDelivering.{accepted_refs, delivered_refs, delivered_share, delivered_seen, came_lists}
use Rattle.call_errors.specs.declared.seats.CallSeat.{CallSeat}
use Rattle.call_errors.specs.declared.retries.Retry.{Retry}
use Rattle.call_errors.specs.ClientBooks.{Books, books_of, stand_of, starving, KeepsSeat}
use Rattle.call_errors.proofs.KeepingThroughErrors as keeping
use Rattle.call_writes.specs.MessageFateBesideCalls.{Rested}
use Rattle.call_attempts.specs.ClientAtBothTables.{Both, both, wanting}
use Rattle.call_attempts.specs.WaitingRetries.{TookNext, without_oldest, RetriedBy, GaveUp, Retried, one_more, RetriedAll, RanOut, for_frame, before_next}
use Rattle.message_parts.specs.Parcels.{parcel_of}
use Rattle.call_writes.proofs.Drains.{drained_refs, drained_same}
use Rattle.call_attempts.specs.Attempting.{message_of, PostedOf, RefusedFor, WentOut, CameBack, DeliveredBy, went_out, came_back, Linked, AttemptedBy, nowhere, over_link}
use Rattle.write_chain.specs.ReadyToSend.{refused_of}

-- ## The seat of the ids

-- a word of an operation that was stored
pub kept_free : {C : Type 0} (z : TableId) (s t : Seat (Maybe C) (id_view.View C)) (x : ℕ) (own : Bool) (word : ℕ) → Sits z s → IsFree s.me.0 → Stays s t → t.me.0 ≡ with_kept x own word s.me.0 → Sits z t × IsFree t.me.0
kept_free {C} z s t x own word sits free stays e = (sits_on z s t stays (ap (λ (v : id_view.View C). v.share) e) sits, (λ j. ap (λ (v : id_view.View C). tokens_in j v) e ∙ free j))

-- ## The seat of the sockets

-- the same references, all that was seen, and at most one message more in its own list
pub record Leaves (v w : View) : Type 0 where
  pub refs : SameRefs v w
  pub seen : StaysSeen v w
  pub share : w.share ≡ v.share
  pub lists : (w.lists ≡ v.lists) ⊎ ((e : Entry) × (w.lists ≡ more v.lists e))

own_by : (n : ℕ) (v w : View) → (w.lists ≡ v.lists) ⊎ ((e : Entry) × (w.lists ≡ more v.lists e)) → OwnList n v → OwnList (n + 1) w
own_by n v w (inl e) o = record { made = o.made; taken_in = o.taken_in; lists = e ∙ o.lists; few = (let a = o.few in omega arith) }
own_by n v w (inr (e, is)) o = record { made = o.made ++ e ∷ []; taken_in = o.taken_in; lists = is ∙ ap (λ l. more l e) o.lists; few = (let a = o.few in let b = length-append o.made (e ∷ []) in omega arith) }

pub own_after : (v w : View) → Leaves v w → (n : ℕ) → OwnList n v → OwnList (n + 1) w
own_after v w l n o = own_by n v w l.lists o

-- a reference came, and else notes alone
pub record Comes (id : ℕ) (v w : View) : Type 0 where
  pub one : OneMore id v w
  pub seen : StaysSeen v w
  pub share : w.share ≡ v.share
  pub lists : w.lists ≡ v.lists

-- ## A refused frame

pub message_is : (p : Plan) (sock : SockRef) (msg : Letter) (r : Refused) (v w : View) → RefusedBy p sock msg r v w → message_of r ≡ msg
message_is p sock msg (refused.Failed s m found) v w b = b.1
message_is p sock msg (refused.Full s m) v w b = b.1

pub reference_is : (p : Plan) (sock : SockRef) (msg : Letter) (r : Refused) (v w : View) → RefusedBy p sock msg r v w → refused_of r ≡ sock
reference_is p sock msg (refused.Failed s m found) v w b = b.0
reference_is p sock msg (refused.Full s m) v w b = b.0

pub refused_failed : (q : id_plan.Plan) (r : Refused) (sock : SockRef) (msg : Letter) (found : Vref) (s t : Both) → r ≡ refused.Failed sock msg found → PostedOf q msg EFAILEDSOCKET s t → sending.Returned sock.id.0 s.socks t.socks → RefusedFor q r s t
refused_failed q r sock msg found s t is a b = subst (λ (y : Refused). RefusedFor q y s t) (sym is) now
  where
    now : RefusedFor q (refused.Failed sock msg found) s t
    now = record { posted = a; returned = b }

pub refused_full : (q : id_plan.Plan) (r : Refused) (sock : SockRef) (msg : Letter) (s t : Both) → r ≡ refused.Full sock msg → PostedOf q msg EREQUESTS s t → sending.Returned sock.id.0 s.socks t.socks → RefusedFor q r s t
refused_full q r sock msg s t is a b = subst (λ (y : Refused). RefusedFor q y s t) (sym is) now
  where
    now : RefusedFor q (refused.Full sock msg) s t
    now = record { posted = a; returned = b }

-- ## An attempt

module _ {O : Type 0} (state : O → OutState) (p : Plan) (q : id_plan.Plan) (socket : SocketId) (msg : Letter) where
  abbrev sock : SockRef
  sock = record { id = socket }

  went_leaves : (u : View) (s t : Both) → Comes socket.0 u s.socks → WentOut state p q socket msg s t → Leaves u t.socks
  went_leaves u s t c w = record {
    refs = given socket.0 u wrote t.socks back.ended (then_more socket.0 u w.taken wrote (then_more socket.0 u s.socks w.taken c.one taken) (drained_refs p q.slots socket.0 w.taken wrote s.calls t.calls w.through.drained)) back.back;
    seen = seen_then u s.socks t.socks c.seen (seen_then s.socks w.taken t.socks w.accepted.seen (seen_then w.taken wrote t.socks (seen_same w.taken wrote others.4) (seen_became (socket_id_slot socket.0) wrote t.socks _ _ back.back.became)));
    share = ap (λ (y : View). y.share) back.back.became.others ∙ (others.2 ∙ (w.accepted.share ∙ c.share));
    lists = inr (w.accepted.entry, ap (λ (y : View). y.lists) back.back.became.others ∙ (others.3 ∙ (w.accepted.lists ∙ ap (λ l. more l w.accepted.entry) c.lists)));
  }
    where
      wrote : View
      wrote = w.through.wrote

      back : sending.Returned socket.0 wrote t.socks
      back = w.through.returned

      taken : SameRefs s.socks w.taken
      taken = accepted_refs (Saw (socket_id_version socket.0) ∷ []) p socket.0 (heading_of msg) (parcel_of msg.bytes).bytes s.socks w.taken refl w.accepted

      others : (wrote.claims ≡ w.taken.claims) × (wrote.loose ≡ w.taken.loose) × (wrote.share ≡ w.taken.share) × (wrote.lists ≡ w.taken.lists) × (wrote.found ≡ w.taken.found)
      others = drained_same p q.slots socket.0 w.taken wrote s.calls t.calls w.through.drained

  -- as a message that is sent
  came_as : (by : Outcome) (why : Refused) (u v w : View) → Comes socket.0 u v → sending.CameBack p sock msg why v w → sending.DeliveredBy state p sock msg (Some by) v w → Leaves u w
  came_as by why u v w c back d = record {
    refs = delivered_refs state p sock msg (Some by) u v w c.one d;
    seen = seen_then u v w c.seen (delivered_seen state p sock msg (Some by) v w d);
    share = delivered_share state p sock msg (Some by) v w d ∙ c.share;
    lists = inl (came_lists p sock msg why v w back ∙ c.lists);
  }

  came_leaves : (u : View) (s t : Both) → Comes socket.0 u s.socks → (by : Refused) → CameBack state p q socket msg by s t → Leaves u t.socks
  came_leaves u s t c (refused.Failed k m found) b = let back : sending.CameBack p sock msg (refused.Failed sock msg found) s.socks t.socks = record { refused_at = b.refused_at; refused_by = (refl, refl, b.refused_by.2, b.refused_by.3); returned = b.returned } in came_as (outcome.Gone found) (refused.Failed sock msg found) u s.socks t.socks c back back
  came_leaves u s t c (refused.Full k m) b = let r = b.refused_by in let back : sending.CameBack p sock msg (refused.Full sock msg) s.socks t.socks = record { refused_at = b.refused_at; refused_by = (refl, refl, r.2, r.3, r.4, r.5, r.6, r.7, r.8, r.9); returned = b.returned } in came_as outcome.Full (refused.Full sock msg) u s.socks t.socks c back back

  delivered_leaves : (u : View) (s t : Both) → Comes socket.0 u s.socks → DeliveredBy state p q socket msg s t → Leaves u t.socks
  delivered_leaves u s t c (went_out w) = went_leaves u s t c w
  delivered_leaves u s t c (came_back by b) = came_leaves u s t c by b

  -- the reference that the seat has then
  pub linked_comes : (s t : Both) → Linked state p q socket msg s t → Comes socket.0 s.socks t.socks
  linked_comes s t l = record {
    one = then_more socket.0 s.socks l.has t.socks (counting.one_more socket.0 s.socks l.has l.held) (same_refs (socket_id_slot socket.0) l.has t.socks _ [] l.link_of.became refl refl);
    seen = seen_then s.socks l.has t.socks (seen_became (socket_id_slot socket.0) s.socks l.has _ _ l.held) (seen_became (socket_id_slot socket.0) l.has t.socks _ _ l.link_of.became);
    share = ap (λ (y : View). y.share) l.link_of.became.others ∙ ap (λ (y : View). y.share) l.held.others;
    lists = ap (λ (y : View). y.lists) l.link_of.became.others ∙ ap (λ (y : View). y.lists) l.held.others;
  }

  pub attempted_leaves : (s t : Both) → AttemptedBy state p q socket msg s t → Leaves s.socks t.socks
  attempted_leaves s t (nowhere g) = record {
    refs = gone_refs socket.0 g.found.0 s.socks t.socks g.gone;
    seen = seen_became (socket_id_slot socket.0) s.socks t.socks _ _ g.gone.became;
    share = ap (λ (y : View). y.share) g.gone.became.others;
    lists = inl (ap (λ (y : View). y.lists) g.gone.became.others);
  }
  attempted_leaves s t (over_link u l d) = delivered_leaves s.socks u t (linked_comes s u l) d

-- ## A name that is read

-- the same references, all that was seen, and the same lists
pub record Keeps (v w : View) : Type 0 where
  pub refs : SameRefs v w
  pub seen : StaysSeen v w
  pub share : w.share ≡ v.share
  pub lists : w.lists ≡ v.lists

pub keeps_leaves : (v w : View) → Keeps v w → Leaves v w
keeps_leaves v w k = record { refs = k.refs; seen = k.seen; share = k.share; lists = inl k.lists }

lists_then : (u v w : View) → v.lists ≡ u.lists → (w.lists ≡ v.lists) ⊎ ((e : Entry) × (w.lists ≡ more v.lists e)) → (w.lists ≡ u.lists) ⊎ ((e : Entry) × (w.lists ≡ more u.lists e))
lists_then u v w a (inl e) = inl (e ∙ a)
lists_then u v w a (inr (e, is)) = inr (e, is ∙ ap (λ l. more l e) a)

pub keeps_then : (u v w : View) → Keeps u v → Leaves v w → Leaves u w
keeps_then u v w k l = record { refs = refs_then u v w k.refs l.refs; seen = seen_then u v w k.seen l.seen; share = l.share ∙ k.share; lists = lists_then u v w k.lists l.lists }

pub found_keeps : (p : Plan) (n : ℕ) (by : Maybe SocketId) (v w : View) → Found p n by v w → Keeps v w
found_keeps p n (Some id) v w f = let e = f.1.view in record { refs = finds_refs (name_index p n) id.0 v w f.1; seen = seen_found (name_index p n) id.0 v w f.1; share = ap (λ (y : View). y.share) e; lists = ap (λ (y : View). y.lists) e }
found_keeps p n None v w f = let e = f.0 in record { refs = refs_none v w (ap (λ (y : View). y.marks) e); seen = seen_same v w (ap (λ (y : View). y.found) e); share = ap (λ (y : View). y.share) e; lists = ap (λ (y : View). y.lists) e }

-- ## The link of a socket that is held

pub link_keeps : (p : Plan) (k id : ℕ) (v w : View) → LinkOf p k id v w → Keeps v w
link_keeps p k id v w l = record {
  refs = same_refs (socket_id_slot id) v w _ [] l.became refl refl;
  seen = seen_became (socket_id_slot id) v w _ _ l.became;
  share = ap (λ (y : View). y.share) l.became.others;
  lists = ap (λ (y : View). y.lists) l.became.others;
}

-- what is held is held, and few references are there still
pub few_still : (i : ℕ) (v w : View) → Keeps v w → marks_of is_ref i v < 65540 → marks_of is_ref i w < 65540
few_still i v w k few = let a = k.refs.refs i in omega arith

-- ## The oldest retry is taken out

pub took_is : (v : View) (c d : CallSeat) (r : Retry) → d.seat ≡ c.seat → TookNext (Some r) (books_of c) (books_of d) → both v d ≡ without_oldest d.retries.items (both v c)
took_is v c d r e k = λ z. record { socks = v; calls = record { view = (e z).me.0; books = k.2 z } }

pub took_none : (v : View) (c d : CallSeat) → d.seat ≡ c.seat → TookNext None (books_of c) (books_of d) → both v d ≡ both v c
took_none v c d e k = λ z. record { socks = v; calls = record { view = (e z).me.0; books = k.2 z } }

pub wants_is : (v : View) (c d : CallSeat) → d.seat ≡ c.seat → books_of d ≡ starving (books_of c) → both v d ≡ record { socks = v; calls = wanting (stand_of c) }
wants_is v c d e k = λ z. record { socks = v; calls = record { view = (e z).me.0; books = k z } }

-- ## What isn't a value is the other

pub not_ok : {A E : Type 0} (r : Result A E) (P : E → Type 0) → ((x : A) → r ≡ Ok x → ⊥) → IfErr r P → (e : E) × P e
not_ok (Ok x) P n h = absurd (n x refl)
not_ok (Err e) P n h = (e, h)

-- two facts of an error
pub both_err : {A E : Type 0} (r : Result A E) (P Q : E → Type 0) → IfErr r P → IfErr r Q → IfErr r (λ e. P e × Q e)
both_err (Ok x) P Q a b = tt
both_err (Err e) P Q a b = (a, b)

-- what holds of any error holds of the one that was met
pub err_by : {A E : Type 0} (r : Result A E) (P : E → Type 0) → ((e : E) → P e) → IfErr r P
err_by (Ok x) P h = tt
err_by (Err e) P h = h e

pub not_named : (p : Plan) (n : ℕ) (r : Maybe SocketId) (v w : View) → ((x : SocketId) → r ≡ Some x → ⊥) → Found p n r v w → Found p n None v w
not_named p n (Some id) v w never f = absurd (never id refl)
not_named p n None v w _ f = f

pub own_keeps : (n : ℕ) (v w : View) → Keeps v w → OwnList n v → OwnList n w
own_keeps n v w k o = record { made = o.made; taken_in = o.taken_in; lists = k.lists ∙ o.lists; few = o.few }

pub none_keeps : (v : View) → Keeps v v
none_keeps v = record { refs = record { refs = λ i. refl; lives = λ i h. refl }; seen = λ x h. h; share = refl; lists = refl }

-- ## Both seats

pub keeps_same : (z : TableId) (c d e : CallSeat) → KeepsSeat z c d → e.seat ≡ d.seat → KeepsSeat z c e
keeps_same z c d e k same = record {
  stays = subst (λ (s : Seat (Maybe Asked) (id_view.View Asked)). Stays c.seat s) (sym same) k.stays;
  ids = subst (λ (s : Seat (Maybe Asked) (id_view.View Asked)). Sits z s × IsFree s.me.0) (sym same) k.ids;
}

module _ {S : Type 0} (z : TableId) (p : Plan) (y : TableId) where
  -- nothing was done at the table of sockets
  pub rested_still : (s : Seat S View) (c d : CallSeat) → MayAct z p s → KeepsSeat y c d → Rested z p y s s c d
  rested_still s c d may keeps = let k = none_keeps s.me.0 in record { rest = record { idle = may.idle; share = refl }; refs = k.refs; seen = k.seen; keeps = keeps }

  -- a name was read there
  pub rested_found : (s t : Seat S View) (c d : CallSeat) → MayAct z p s → IsSeat z p t → t.me.1 ≡ s.me.1 → (IsBetween p s.me.0 → IsBetween p t.me.0) → SameTokens p s.me.0 t.me.0 → Keeps s.me.0 t.me.0 → KeepsSeat y c d → Rested z p y s t c d
  rested_found s t c d may seat slots between same k keeps = record { rest = rest_same z p s t may.idle seat slots (between may.idle.between) same; refs = k.refs; seen = k.seen; keeps = keeps }

  pub rested_same : (s t : Seat S View) (c d e : CallSeat) → Rested z p y s t c d → e.seat ≡ d.seat → Rested z p y s t c e
  rested_same s t c d e r same = record { rest = r.rest; refs = r.refs; seen = r.seen; keeps = keeps_same y c d e r.keeps same }

  -- between the two what else the client has for calls may have changed
  pub rested_then : (s t u : Seat S View) (c d e f : CallSeat) → Rested z p y s t c d → Rested z p y t u e f → e.seat ≡ d.seat → Rested z p y s u c f
  rested_then s t u c d e f a b same = record { rest = rest_then z p s t u a.rest b.rest; refs = refs_then s.me.0 t.me.0 u.me.0 a.refs b.refs; seen = seen_then s.me.0 t.me.0 u.me.0 a.seen b.seen; keeps = keeping.keeps_then y c e f (keeps_same y c d e a.keeps same) b.keeps }

-- ## A client between two retries

pub own_room : (n : ℕ) (v : View) → OwnList n v → n < 33554431 → HasRoom v
own_room n v o lt = record { made = o.made; taken_in = o.taken_in; lists = o.lists; room = (let few = o.few in omega arith) }

pub none_taken : (r : Maybe Retry) (b c : Books) → ((x : Retry) → r ≡ Some x → ⊥) → TookNext r b c → TookNext None b c
none_taken (Some x) b c never k = absurd (never x refl)
none_taken None b c _ k = k

pub one_taken : (r : Maybe Retry) (x : Retry) (b c : Books) → r ≡ Some x → TookNext r b c → TookNext (Some x) b c
one_taken r x b c e k = subst (λ (y : Maybe Retry). TookNext y b c) e k

module _ {O : Type 0} (state : O → OutState) (p : Plan) (q : id_plan.Plan) (s : Both) (v : View) (c d : CallSeat) (same : d.seat ≡ c.seat) (before : Retried state p q s (both v c)) where
  -- none waits
  pub ends_fed : TookNext None (books_of c) (books_of d) → RetriedAll state p q s (both v d)
  ends_fed k = record { retried = subst (λ (y : Both). Retried state p q s y) (sym (took_none v c d same k)) before; none_waits = ap (λ (b : Books). b.retries) k.2 ∙ k.0; fed = ap (λ (b : Books). b.starved) k.2 ∙ k.1 }

  -- the oldest one was made
  pub made_one : (r : Retry) (t : Both) → TookNext (Some r) (books_of c) (books_of d) → RetriedBy state p q r (both v d) t → Retried state p q s t
  made_one r t k by = one_more (both v c) t r d.retries.items before k.0 k.1 (subst (λ (y : Both). RetriedBy state p q r y t) (took_is v c d r same k) by)

  -- or there was no memory for its frame
  pub gave_out : (sent : ℕ) (r : Retry) (t : Both) → TookNext (Some r) (books_of c) (books_of d) → GaveUp state p q r (both v d) t → RanOut state p q sent s t
  gave_out sent r t k by = for_frame (both v c) r d.retries.items before k.0 k.1 (subst (λ (y : Both). GaveUp state p q r y t) (took_is v c d r same k) by)

  -- or before the next one
  pub wanting_before : (sent : ℕ) → (c.starved ≡ true) ⊎ (33554431 ≤ sent) → books_of d ≡ starving (books_of c) → RanOut state p q sent s (both v d)
  wanting_before sent cause k = before_next (both v c) before cause (wants_is v c d same k)
