-- What a seat knows of the name of an operation, before it and behind it.
use Rattle.std.proofs.Common.{◌≡◌, ℕ, true, false, List, [], ◌∷◌, Some, None, inl, inr, zero-le, ap}
use Rattle.std.specs.Prelude.{Option as Maybe, All}
use Rattle.std.proofs.lemmas.List.Elements.{All-nil, All-cons}
use lib.ListN.{get_elem?}
use Rattle.atomic_table.specs.Table.{Me}
use Rattle.sock_io.specs.declared.link.Out.{Ghosts}
use Rattle.sock_io.specs.LinkHalves.{OutState}
use Rattle.sock_words.specs.declared.plain.Plan.{Plan}
use Rattle.sock_words.specs.declared.vref.Vref.{Vref}
use Rattle.sock_words.specs.declared.socket_id.SocketId.{SocketId}
use Rattle.sock_words.specs.declared.outcome.Outcome.{Outcome}
use Rattle.sock_words.specs.declared.outcome.Outcome.TheVariants as outcome
use Rattle.sock_words.specs.PackedWords.{socket_id_slot}
use Rattle.sock_model.specs.declared.view.View.{View}
use Rattle.sock_model.specs.SocketTableLayout.{name_index}
use Rattle.sock_rule.specs.declared.homes.Letter.{Letter}
use Rattle.sock_table.specs.NamesStoredAndFound.{HasSeen, Found}
use Rattle.sock_table.specs.declared.refs.SockRef.{SockRef}
use Rattle.corr_core.specs.declared.marks.Plan as id_plan
use Rattle.sock_message.specs.Asked.{Asked, name_of}
use Rattle.seat_programs.specs.declared.task.Op.{Op}
use Rattle.seat_programs.specs.declared.task.Op.TheVariants as ops
use Rattle.rpc_client.specs.declared.holding.Held.{Held}
use Rattle.rpc_client.specs.declared.reaching.Reached.TheVariants as reached
use Rattle.rpc_client.specs.ReachingByName.{ReachedBy}
use Rattle.rpc_client.specs.OpenOutcomes.{OpenedBy}
use Rattle.rpc_client.specs.HoldAndDropOutcomes.{HeldBy, DroppedBy}
use Rattle.rpc_client.specs.FailOutcomes.{TriedTo, FailedBy}
use Rattle.rpc_client.specs.SendingOutcomes.{SentWith, SentBy}
use Rattle.rpc_client.specs.ToldOfOperation.{finds_name}
use Rattle.rpc_client.proofs.FindingReferences.{seen_became, seen_others, set_others}
use Rattle.rpc_client.proofs.SeatBehindDelivering.{delivered_seen}
use Rattle.call_errors.specs.ClientBooks.{CallStand}
use Rattle.call_attempts.specs.call_writes.specs.MessageFateBesideCalls.{SentWithCalling, SentCalling}
use Rattle.call_attempts.specs.call_writes.proofs.DeliveringWithCalls.{plainly}
use Rattle.call_attempts.specs.ClientAtBothTables.{Both}
use Rattle.call_attempts.specs.AttemptLetters.{letter_for}
use Rattle.call_attempts.specs.CallBeginning.{BegunAs}
use Rattle.call_attempts.proofs.LeftByAttempt.{attempted_leaves}
use Rattle.call_client.specs.ClientBetweenOperations.{Stand, letter_of, both_of, Acted}
use Rattle.call_client.specs.ClientRun.{names_in}

-- ## A name that was found

found_known : (p : Plan) (n : ℕ) (id : SocketId) (v w : View) → Found p n (Some id) v w → HasSeen (name_index p n) w
found_known p n id v w f = (0, ap (λ (y : View). get_elem? y.found 0) f.1.view)

here_known : (p : Plan) (n : ℕ) (sock : SockRef) (v w : View) → ReachedBy p n (reached.Here sock) v w → HasSeen (name_index p n) w
here_known p n sock v w r = seen_became (socket_id_slot sock.id.0) r.0 w _ _ r.2 (name_index p n) (found_known p n sock.id v r.0 r.1)

gone_known : (p : Plan) (n : ℕ) (found : Vref) (v w : View) → ReachedBy p n (reached.Gone found) v w → HasSeen (name_index p n) w
gone_known p n found v w r = seen_became (socket_id_slot r.0.0) r.1 w _ _ r.3.became (name_index p n) (found_known p n r.0 v r.1 r.2)

tried_known : (p : Plan) (n code : ℕ) (by : Outcome) (v w : View) → TriedTo p n code by v w → HasSeen (name_index p n) w
tried_known p n code by v w t = seen_became (socket_id_slot t.sock.id.0) t.set w _ _ t.back.became (name_index p n) (seen_others t.has t.set (set_others t.sock.id.0 code by t.has t.set t.set_by) (name_index p n) (here_known p n t.sock v t.has t.reached_it))

false_true : false ≡ true → ⊥
false_true e = cc

held_known : (p : Plan) (n : ℕ) (by : Outcome) (h : List Held) (v : View) (k : List Held) (w : View) → finds_name (Some by) ≡ true → HeldBy p n by h v k w → HasSeen (name_index p n) w
held_known p n outcome.Unopened h v k w f b = absurd (false_true f)
held_known p n (outcome.Gone found) h v k w f b = gone_known p n found v w b.1
held_known p n outcome.Held h v k w f b = here_known p n record { id = b.0 } v w b.2
held_known p n _ h v k w f b = elim b [ ]

dropped_known : (p : Plan) (n : ℕ) (by : Outcome) (h : List Held) (v : View) (k : List Held) (w : View) → finds_name (Some by) ≡ true → DroppedBy n by h v k w → HasSeen (name_index p n) w
dropped_known p n outcome.NotHeld h v k w f b = absurd (false_true f)
dropped_known p n outcome.Freed h v k w f b = absurd (false_true f)
dropped_known p n outcome.Kept h v k w f b = absurd (false_true f)
dropped_known p n _ h v k w f b = elim b [ ]

failed_known : (p : Plan) (n code : ℕ) (by : Outcome) (v w : View) → finds_name (Some by) ≡ true → FailedBy p n code by v w → HasSeen (name_index p n) w
failed_known p n code outcome.Unopened v w f b = absurd (false_true f)
failed_known p n code (outcome.Gone found) v w f b = gone_known p n found v w b
failed_known p n code outcome.Failed v w f b = tried_known p n code outcome.Failed v w b
failed_known p n code (outcome.Already found) v w f b = tried_known p n code (outcome.Already found) v w b
failed_known p n code _ v w f b = elim b [ ]

opened_known : {S : Type 0} (p : Plan) (n number link : ℕ) (by : Outcome) (m o : Me S View) → finds_name (Some by) ≡ true → OpenedBy p n number link by m o → HasSeen (name_index p n) o.0
opened_known {S} p n number link (outcome.Opened slot version k) m o f b = (0, ap (λ (y : Me S View). get_elem? y.0.found 0) b.4.published.view)
opened_known p n number link outcome.SlotsFull m o f b = absurd (false_true f)
opened_known p n number link _ m o f b = elim b [ ]

-- ## A message that was sent with calls, as one of sockets alone

module _ {O : Type 0} (state : O → OutState) (p : Plan) (slots n : ℕ) (msg : Letter) where
  with_plainly : (by : Maybe Outcome) (v w : View) (s t : CallStand) → SentWithCalling state p slots n msg by v s w t → SentWith state p n msg by v w
  with_plainly by v w s t d = record { sock = d.sock; has = d.has; reached_it = d.reached_it; delivered = plainly state p slots d.sock msg by d.has w s t d.delivered }

  pub sent_plainly : (by : Maybe Outcome) (v w : View) (s t : CallStand) → SentCalling state p slots n msg by v s w t → SentBy state p n msg by v w
  sent_plainly None v w s t d = with_plainly None v w s t d
  sent_plainly (Some outcome.Unopened) v w s t d = d.0
  sent_plainly (Some (outcome.Gone found)) v w s t d = elim d [ inl r ↦ inl r.0 | inr e ↦ inr (with_plainly (Some (outcome.Gone found)) v w s t e) ]
  sent_plainly (Some outcome.Full) v w s t d = with_plainly (Some outcome.Full) v w s t d
  sent_plainly (Some _) v w s t d = elim d [ ]

  with_known : (by : Maybe Outcome) (v w : View) → SentWith state p n msg by v w → HasSeen (name_index p n) w
  with_known by v w s = delivered_seen state p s.sock msg by s.has w s.delivered (name_index p n) (here_known p n s.sock v s.has s.reached_it)

  sent_known : (by : Maybe Outcome) (v w : View) → finds_name by ≡ true → SentBy state p n msg by v w → HasSeen (name_index p n) w
  sent_known None v w f s = with_known None v w s
  sent_known (Some (outcome.Gone found)) v w f s = elim s [ inl r ↦ gone_known p n found v w r | inr d ↦ with_known (Some (outcome.Gone found)) v w d ]
  sent_known (Some outcome.Full) v w f s = with_known (Some outcome.Full) v w s
  sent_known (Some outcome.Unopened) v w f s = absurd (false_true f)
  sent_known (Some _) v w f s = elim s [ ]

-- ## An operation

begun_known : {O : Type 0} (state : O → OutState) (p : Plan) (q : id_plan.Plan) (asked : Asked) (id : ℕ) (s t : Both) → BegunAs state p q asked id s t → HasSeen (name_index p (name_of asked 0)) t.socks
begun_known state p q asked id s t b = (attempted_leaves state p q b.socket (letter_for asked id 0 zero-le) b.at t b.attempted).seen (name_index p (name_of asked 0)) (found_known p (name_of asked 0) b.socket s.socks b.at.socks b.made_for.found)

module _ {O : Type 0} {g : Ghosts O} (state : O → OutState) (p : Plan) (q : id_plan.Plan) where
  one_known : (s : Stand g) (n : ℕ) → HasSeen (name_index p n) s.me.0 → All (λ m. HasSeen (name_index p m) s.me.0) (n ∷ [])
  one_known s n h = All-cons (λ m. HasSeen (name_index p m) s.me.0) n [] h (All-nil (λ m. HasSeen (name_index p m) s.me.0))

  -- the name that it opened or found is known then
  pub acted_known : (number : ℕ) (op : Op) (by : Maybe Outcome) (s t : Stand g) → finds_name by ≡ true → Acted state p q number op by s t → All (λ n. HasSeen (name_index p n) t.me.0) (names_in op)
  acted_known number (ops.Open n k) (Some by) s t f b = one_known t n (opened_known p n number b.0.pass.link by s.me t.me f b.0.opened)
  acted_known number (ops.Send n bytes) by s t f b = one_known t n (sent_known state p q.slots n (letter_of number bytes) by s.me.0 t.me.0 f (sent_plainly state p q.slots n (letter_of number bytes) by s.me.0 t.me.0 s.calls t.calls b.0))
  acted_known number (ops.Call asked) (Some outcome.Unopened) s t f b = absurd (false_true f)
  acted_known number (ops.Call asked) None s t f b = one_known t (name_of asked 0) (begun_known state p q asked b.0 (both_of s) (both_of t) b.1)
  acted_known number (ops.Call asked) (Some _) s t f b = elim b [ ]
  acted_known number (ops.Expire of) by s t f b = All-nil (λ n. HasSeen (name_index p n) t.me.0)
  acted_known number (ops.Join of) by s t f b = All-nil (λ n. HasSeen (name_index p n) t.me.0)
  acted_known number (ops.Hold n) (Some by) s t f b = one_known t n (held_known p n by s.held s.me.0 t.held t.me.0 f b.0)
  acted_known number (ops.Drop n) (Some by) s t f b = one_known t n (dropped_known p n by s.held s.me.0 t.held t.me.0 f b.0)
  acted_known number (ops.Fail n code) (Some by) s t f b = one_known t n (failed_known p n code by s.me.0 t.me.0 f b.0)
  acted_known number _ None s t f b = elim b [ ]

  one_new : (s : Stand g) (n : ℕ) → (HasSeen (name_index p n) s.me.0 → ⊥) → All (λ m. HasSeen (name_index p m) s.me.0 → ⊥) (n ∷ [])
  one_new s n h = All-cons (λ m. HasSeen (name_index p m) s.me.0 → ⊥) n [] h (All-nil (λ m. HasSeen (name_index p m) s.me.0 → ⊥))

  -- `unopened` only of a name that isn't known
  pub unopened_new : (number : ℕ) (op : Op) (s t : Stand g) → Acted state p q number op (Some outcome.Unopened) s t → All (λ n. HasSeen (name_index p n) s.me.0 → ⊥) (names_in op)
  unopened_new number (ops.Open n k) s t b = elim b.0.opened [ ]
  unopened_new number (ops.Send n bytes) s t b = one_new s n b.0.0.1
  unopened_new number (ops.Call asked) s t b = one_new s (name_of asked 0) b.0.0.1
  unopened_new number (ops.Expire of) s t b = All-nil (λ n. HasSeen (name_index p n) s.me.0 → ⊥)
  unopened_new number (ops.Join of) s t b = All-nil (λ n. HasSeen (name_index p n) s.me.0 → ⊥)
  unopened_new number (ops.Hold n) s t b = one_new s n b.0.1.1
  unopened_new number (ops.Drop n) s t b = elim b.0 [ ]
  unopened_new number (ops.Fail n code) s t b = one_new s n b.0.1
