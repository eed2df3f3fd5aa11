-- What few kinds of changes of what a seat knows of calls keep, all do that come by its errors, by an `expire` or a `join`, and by what becomes of messages and attempts.
use Rattle.std.proofs.Common.{◌≡◌, ℕ, inl, inr, true, false, Some, None, refl}
use Rattle.std.specs.Prelude.{Option as Maybe}
use Rattle.sock_io.specs.declared.link.Out.{Ghosts}
use Rattle.sock_io.specs.LinkHalves.{OutState}
use Rattle.sock_words.specs.ErrorCodes.{EFAILEDSOCKET, ERPCTIMEDOUT}
use Rattle.sock_words.specs.declared.plain.Plan.{Plan}
use Rattle.sock_words.specs.declared.socket_id.SocketId.{SocketId}
use Rattle.sock_words.specs.declared.outcome.Outcome.{Outcome}
use Rattle.sock_words.specs.declared.outcome.Outcome.TheVariants as outcome
use Rattle.sock_model.specs.declared.view.View as sock_view
use Rattle.call_run.specs.sock_rule.specs.declared.homes.Letter.{Letter}
use Rattle.call_run.specs.sock_table.specs.declared.refs.SockRef.{SockRef}
use Rattle.call_run.specs.call_client.specs.write_chain.specs.declared.right.Undelivered.{Undelivered}
use Rattle.corr_core.specs.declared.marks.Plan as id_plan
use Rattle.id_rule.specs.LawfulIdTable.{call_index, with_kept}
use Rattle.sock_message.specs.Asked.{Asked}
use Rattle.corr_id.specs.SeatBehindIdCalls.{Quiet}
use Rattle.seat_programs.specs.declared.task.Op.{Op}
use Rattle.seat_programs.specs.declared.task.Op.TheVariants as ops
use Rattle.call_run.specs.call_client.specs.call_errors.specs.ClientBooks.{CallStand}
use Rattle.call_run.specs.call_client.specs.call_errors.specs.PostedErrors.{PostedBy}
use Rattle.call_run.specs.call_client.specs.call_errors.specs.ExpireAndJoinOutcomes.{found_id, TimedOut, ExpiredBy, JoinedBy}
use Rattle.call_run.specs.call_client.specs.call_writes.specs.Draining.{ToldDrop, of_send, of_call, DroppedAll, Drained}
use Rattle.call_run.specs.call_client.specs.call_writes.specs.Draining as draining
use Rattle.call_run.specs.call_client.specs.call_writes.specs.MessageFateBesideCalls.{DeliveredCalling, SentCalling}
use Rattle.call_run.specs.call_client.specs.call_attempts.specs.ClientAtBothTables.{Both}
use Rattle.call_run.specs.call_client.specs.call_attempts.specs.Attempting.{code_for, DeliveredBy, went_out, came_back, AttemptedBy, nowhere, over_link}
use Rattle.call_run.specs.call_client.specs.call_attempts.specs.CallBeginning.{MadeFor}
use Rattle.call_run.specs.call_client.specs.call_attempts.specs.WaitingRetries.{WentTo, stray, unopened, to_socket}
use Rattle.call_run.specs.call_client.specs.ClientBetweenOperations.{Stand, both_of, letter_of, Acted}

-- it holds where nothing changed, and of two changes in turn; where a word of an operation was found, where the table was looked at, and where an error was posted
pub record Follows (q : id_plan.Plan) (R : CallStand → CallStand → Type 0) : Type 0 where
  pub same : (s t : CallStand) → t ≡ s → R s t
  pub in_turn : (s u t : CallStand) → R s u → R u t → R s t
  pub finds : (s t : CallStand) (place word : ℕ) → t.view ≡ with_kept place false word s.view → t.books ≡ s.books → R s t
  pub looks : (s t : CallStand) → t.books ≡ s.books → Quiet s.view t.view → R s t
  pub posts : (s t : CallStand) (id code : ℕ) (attempt : Maybe ℕ) → PostedBy q.slots s id code attempt t → R s t

module _ (q : id_plan.Plan) {R : CallStand → CallStand → Type 0} (f : Follows q R) where
  -- ## An `expire` and a `join`

  timed_out : (operation : ℕ) (by : Outcome) (s t : CallStand) → TimedOut q operation by s t → R s t
  timed_out operation by s t h = let u = found_id q operation h.id s in f.in_turn s u t (f.finds s u (call_index q operation) h.id refl refl) (f.posts u t h.id ERPCTIMEDOUT None (h.answer, h.posted))

  pub expired_by : (operation : ℕ) (by : Outcome) (s t : CallStand) → ExpiredBy q operation by s t → R s t
  expired_by operation outcome.NotBegun s t h = f.same s t h.same
  expired_by operation outcome.Expired s t h = timed_out operation outcome.Expired s t h
  expired_by operation outcome.Queued s t h = timed_out operation outcome.Queued s t h
  expired_by operation outcome.Late s t h = timed_out operation outcome.Late s t h
  expired_by operation (outcome.Crowded first second) s t h = timed_out operation (outcome.Crowded first second) s t h
  expired_by operation _ s t h = elim h [ ]

  pub joined_by : (operation : ℕ) (by : Outcome) (s t : CallStand) → JoinedBy q operation by s t → R s t
  joined_by operation outcome.NotBegun s t h = f.same s t h.same
  joined_by operation outcome.Joined s t h = let u = found_id q operation h.id s in let x : CallStand = record { view = h.view; books = s.books } in
      f.in_turn s u t (f.finds s u (call_index q operation) h.id refl refl) (f.in_turn u x t (f.looks u x refl h.quiet) (f.same x t h.after))
  joined_by operation _ s t h = elim h [ ]

  -- ## Messages

  told_drop : (msg : Undelivered) (code : ℕ) (s t : CallStand) → ToldDrop q.slots msg code s t → R s t
  told_drop msg code s t (of_send e is) = f.same s t is
  told_drop msg code s t (of_call ne p) = f.posts s t msg.owner code (Some msg.label.attempt) p

  module _ {O : Type 0} (state : O → OutState) (p : Plan) where
    dropped_all : (id : ℕ) (v : sock_view.View) (s : CallStand) (w : sock_view.View) (t : CallStand) → DroppedAll state p q.slots id v s w t → R s t
    dropped_all id v s _ _ draining.none = f.same s s refl
    dropped_all id v s _ _ (draining.one_more u r w t more one) = f.in_turn s r t (dropped_all id v s u r more) (told_drop one.msg one.code r t one.told)

    drained : (id : ℕ) (v : sock_view.View) (s : CallStand) (w : sock_view.View) (t : CallStand) → Drained state p q.slots id v s w t → R s t
    drained id v s w t d = dropped_all id v s d.last t d.dropped

    delivered : (sock : SockRef) (msg : Letter) (by : Maybe Outcome) (v : sock_view.View) (s : CallStand) (w : sock_view.View) (t : CallStand) → DeliveredCalling state p q.slots sock msg by v s w t → R s t
    delivered sock msg None v s w t d = drained sock.id.0 d.taken s d.through.wrote t d.through.drained
    delivered sock msg (Some (outcome.Gone found)) v s w t d = f.same s t d.1
    delivered sock msg (Some outcome.Full) v s w t d = f.same s t d.1
    delivered sock msg (Some _) v s w t d = elim d [ ]

    pub sent_calling : (n : ℕ) (msg : Letter) (by : Maybe Outcome) (v : sock_view.View) (s : CallStand) (w : sock_view.View) (t : CallStand) → SentCalling state p q.slots n msg by v s w t → R s t
    sent_calling n msg None v s w t h = delivered h.sock msg None h.has s w t h.delivered
    sent_calling n msg (Some outcome.Unopened) v s w t h = f.same s t h.1
    sent_calling n msg (Some (outcome.Gone found)) v s w t (inl h) = f.same s t h.1
    sent_calling n msg (Some (outcome.Gone found)) v s w t (inr h) = delivered h.sock msg (Some (outcome.Gone found)) h.has s w t h.delivered
    sent_calling n msg (Some outcome.Full) v s w t h = delivered h.sock msg (Some outcome.Full) h.has s w t h.delivered
    sent_calling n msg (Some _) v s w t h = elim h [ ]

    -- ## Attempts

    pub delivered_by : (socket : SocketId) (msg : Letter) (s t : Both) → DeliveredBy state p q socket msg s t → R s.calls t.calls
    delivered_by socket msg s t (went_out w) = drained socket.0 w.taken s.calls w.through.wrote t.calls w.through.drained
    delivered_by socket msg s t (came_back by c) = f.posts s.calls t.calls msg.owner (code_for by) (Some msg.label.attempt) c.posted

    -- where it holds too of a word that the seat stored
    module _ (stores : (s t : CallStand) (place word : ℕ) → t.view ≡ with_kept place true word s.view → t.books ≡ s.books → R s t) where
      pub attempted_by : (socket : SocketId) (msg : Letter) (s t : Both) → AttemptedBy state p q socket msg s t → R s.calls t.calls
      attempted_by socket msg s t (nowhere g) = f.posts s.calls t.calls msg.owner EFAILEDSOCKET (Some msg.label.attempt) g.posted
      attempted_by socket msg s t (over_link u l d) = f.in_turn s.calls u.calls t.calls (stores s.calls u.calls _ _ l.stored l.books) (delivered_by socket msg u t d)

      pub went_to : (name : ℕ) (msg : Letter) (s t : Both) → WentTo state p q name msg s t → R s.calls t.calls
      went_to name msg s t (stray a e h) = f.posts s.calls t.calls msg.owner EFAILEDSOCKET (Some msg.label.attempt) h
      went_to name msg s t (unopened g h) = f.posts s.calls t.calls msg.owner EFAILEDSOCKET (Some msg.label.attempt) h
      went_to name msg s t (to_socket socket u g e a) = f.in_turn s.calls u.calls t.calls (f.same s.calls u.calls e) (attempted_by socket msg u t a)

      -- and of a call that begins: of all operations
      pub acted : (makes : (asked : Asked) (id : ℕ) (socket : SocketId) (s t : Both) → MadeFor state p q asked id socket s t → R s.calls t.calls) {g : Ghosts O} (number : ℕ) (op : Op) (by : Maybe Outcome) (s t : Stand g) → Acted state p q number op by s t → R s.calls t.calls
      acted makes number (ops.Open n k) (Some by) s t h = f.same s.calls t.calls h.2
      acted makes number (ops.Send n bytes) by s t h = sent_calling n (letter_of number bytes) by s.me.0 s.calls t.me.0 t.calls h.0
      acted makes number (ops.Call asked) (Some outcome.Unopened) s t h = f.same s.calls t.calls h.0.1
      acted makes number (ops.Call asked) None s t h = let b = h.1 in f.in_turn s.calls b.at.calls t.calls (makes asked h.0 b.socket (both_of s) b.at b.made_for) (attempted_by b.socket _ b.at (both_of t) b.attempted)
      acted makes number (ops.Expire of) (Some by) s t h = expired_by of by s.calls t.calls h.0
      acted makes number (ops.Join of) (Some by) s t h = joined_by of by s.calls t.calls h.0
      acted makes number (ops.Hold n) (Some by) s t h = f.same s.calls t.calls h.2
      acted makes number (ops.Drop n) (Some by) s t h = f.same s.calls t.calls h.2
      acted makes number (ops.Fail n code) (Some by) s t h = f.same s.calls t.calls h.2
      acted makes number _ _ s t h = elim h [ ]
