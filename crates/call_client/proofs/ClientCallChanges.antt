-- What a client's run does to what it knows of calls, as changes of few kinds, one after the other.
use Rattle.std.proofs.Common.{◌≡◌, ℕ, zero, suc, inl, inr, Bool, true, false, List, [], ◌∷◌, Some, None, refl, ap, ◌∙◌, drop}
use Rattle.std.specs.Prelude.{Option as Maybe}
use mathlib.Core.Option.{some}
use lib.ListN.{get_elem?}
use Rattle.sock_io.specs.declared.link.Out.{Ghosts}
use Rattle.sock_io.specs.LinkHalves.{OutState}
use Rattle.sock_words.specs.ErrorCodes.{EFAILEDSOCKET, EINTERNAL, ERPCTIMEDOUT}
use Rattle.sock_words.specs.declared.plain.Plan.{Plan}
use Rattle.sock_words.specs.declared.socket_id.SocketId.{SocketId}
use Rattle.sock_words.specs.declared.outcome.Outcome.{Outcome}
use Rattle.sock_words.specs.declared.outcome.Outcome.TheVariants as outcome
use Rattle.sock_model.specs.declared.view.View as sock_view
use Rattle.sock_rule.specs.declared.homes.Letter.{Letter}
use Rattle.sock_table.specs.declared.refs.SockRef.{SockRef}
use Rattle.seat_programs.specs.declared.task.Op.{Op}
use Rattle.seat_programs.specs.declared.task.Op.TheVariants as ops
use Rattle.seat_programs.specs.declared.task.Task.{Task}
use Rattle.call_attempts.specs.write_chain.specs.declared.right.Undelivered.{Undelivered}
use Rattle.corr_core.specs.IdSlotWord.{parts}
use Rattle.corr_core.specs.declared.marks.Plan as id_plan
use Rattle.corr_core.specs.declared.marks.View.{View}
use Rattle.id_rule.specs.LawfulIdTable.{call_index, with_kept}
use Rattle.sock_message.specs.Asked.{Asked}
use Rattle.corr_id.specs.declared.calls.IdLock.{IdLock}
use Rattle.corr_id.specs.declared.unlocks.Unlocked.{Unlocked}
use Rattle.corr_id.specs.declared.unlocks.Unlocked.TheVariants as unlocked
use Rattle.corr_id.specs.SeatBehindIdCalls.{Quiet, MadeAs}
use Rattle.corr_id.specs.Unlocks.{UnlockOk}
use Rattle.call_errors.specs.declared.retries.Retry.{Retry}
use Rattle.call_errors.specs.ClientBooks.{CallStand, stand_of}
use Rattle.call_errors.specs.LockingByVersion.{GotBy}
use Rattle.call_errors.specs.CallEndsWithCode.{EndedWith}
use Rattle.call_errors.specs.Handling.{Decided}
use Rattle.call_errors.specs.PostedErrors.{PostedBy}
use Rattle.call_errors.specs.ExpireAndJoinOutcomes.{found_id, TimedOut, ExpiredBy, JoinedBy}
use Rattle.call_errors.specs.Starving.{GivenUp, was_gone, ended, AllGivenUp, StarvedBy}
use Rattle.call_attempts.specs.call_writes.specs.Draining.{ToldDrop, of_send, of_call, DroppedAll, Drained}
use Rattle.call_attempts.specs.call_writes.specs.Draining as draining
use Rattle.call_attempts.specs.call_writes.specs.MessageFateBesideCalls.{DeliveredCalling, SentCalling}
use Rattle.call_attempts.specs.declared.calling.Called.{Called}
use Rattle.call_attempts.specs.declared.calling.Called.TheVariants as called
use Rattle.call_attempts.specs.ClientAtBothTables.{Both, wanting}
use Rattle.call_attempts.specs.Attempting.{code_for, DeliveredBy, went_out, came_back, AttemptedBy, nowhere, over_link}
use Rattle.call_attempts.specs.CallBeginning.{MadeFor, CalledBy, WantedBy, before_id, behind_id}
use Rattle.call_attempts.specs.WaitingRetries.{without_oldest, WentTo, stray, unopened, to_socket, Locked, RetriedBy, had_ended, overtaken, went_again, GaveUp, Retried, none_yet, one_more, RanOut, for_frame, before_next}
use Rattle.call_client.specs.declared.caller.Caller.{Caller}
use Rattle.call_client.specs.ClientBetweenOperations.{Stand, stand, both_of, letter_of, Acted}
use Rattle.call_client.specs.ClientRun.{Course, RetriedHere, Made, Ran, NotCalled, for_memory, for_slots, Stops, without_room, while_retrying, while_calling, LeftBy, LeftAll, EndsBy, begins, RunBy}

-- one of these operations is this call
pub record AsksFor (xs : List Task) (asked : Asked) : Type 0 where
  pub place : ℕ
  pub number : ℕ
  pub there : get_elem? xs place ≡ some (record { number = number; op = ops.Call asked })

module _ (xs : List Task) where
  -- the seat noted something, and no call ended by that; an id that it made is that of one of these operations
  pub data Sees : View Asked → View Asked → Type 0 where
    keeps : (v w : View Asked) (place : ℕ) (own : Bool) (word : ℕ) → w ≡ with_kept place own word v → Sees v w
    finds : (v w : View Asked) → Quiet v w → Sees v w
    makes : (v w : View Asked) (slots id : ℕ) (asked : Asked) → AsksFor xs asked → MadeAs v w slots id asked.range asked → Sees v w
    locks : (v w : View Asked) (slots version : ℕ) (k : IdLock Asked) → GotBy slots version k v w → Sees v w
    unlocks : (v w : View Asked) (k : IdLock Asked) (advance : Bool) (answer : Unlocked Asked) → UnlockOk v w k.slot (parts k.word.0) k.content advance answer → Sees v w

  -- from what a client knew of calls to what it knows now
  pub data Changes : CallStand → CallStand → Type 0 where
    same : (s t : CallStand) → t ≡ s → Changes s t
    in_turn : (s u t : CallStand) → Changes s u → Changes u t → Changes s t
    sees : (s t : CallStand) → Sees s.view t.view → t.books ≡ s.books → Changes s t
    -- a call ended
    ends : (s t : CallStand) (k : IdLock Asked) (code : ℕ) → EndedWith k code s t → Changes s t
    -- an error was handled, or posted
    decides : (s t : CallStand) (k : IdLock Asked) (code : ℕ) (attempt : Maybe ℕ) → Decided s k code attempt t → Changes s t
    posts : (s t : CallStand) (slots id code : ℕ) (attempt : Maybe ℕ) → PostedBy slots s id code attempt t → Changes s t
    -- memory was wanting
    wants : (s t : CallStand) → t ≡ wanting s → Changes s t
    -- other retries wait
    shelves : (s t : CallStand) (waiting : List Retry) → t ≡ record { view = s.view; books = record { retries = waiting; told = s.books.told; starved = s.books.starved } } → Changes s t

  -- ## Errors of calls

  given_up : (slots id : ℕ) (s t : CallStand) → GivenUp slots id s t → Changes s t
  given_up slots id s t (was_gone g e) = sees s t (finds s.view t.view g.quiet) e
  given_up slots id s t (ended k v g e) = let u : CallStand = record { view = v; books = s.books } in in_turn s u t (sees s u (locks s.view v slots id k g) refl) (ends u t k EINTERNAL e)

  all_given_up : (slots : ℕ) (rs : List Retry) (s t : CallStand) → AllGivenUp slots rs s t → Changes s t
  all_given_up slots [] s t e = same s t e
  all_given_up slots (r ∷ rs) s t h = in_turn s h.0 t (given_up slots r.id s h.0 h.1) (all_given_up slots rs h.0 t h.2)

  starved_by : (slots : ℕ) (s t : CallStand) → StarvedBy slots s t → Changes s t
  starved_by slots s t h =
      let u : CallStand = record { view = s.view; books = record { retries = []; told = s.books.told; starved = s.books.starved } } in
      in_turn s u t (shelves s u [] refl) (in_turn u (wanting u) t (wants u (wanting u) refl) (all_given_up slots s.books.retries (wanting u) t h))

  timed_out : (q : id_plan.Plan) (operation : ℕ) (by : Outcome) (s t : CallStand) → TimedOut q operation by s t → Changes s t
  timed_out q operation by s t h = let u = found_id q operation h.id s in
      in_turn s u t (sees s u (keeps s.view u.view (call_index q operation) false h.id refl) refl) (posts u t q.slots h.id ERPCTIMEDOUT None (h.answer, h.posted))

  expired_by : (q : id_plan.Plan) (operation : ℕ) (by : Outcome) (s t : CallStand) → ExpiredBy q operation by s t → Changes s t
  expired_by q operation outcome.NotBegun s t h = same s t h.same
  expired_by q operation outcome.Expired s t h = timed_out q operation outcome.Expired s t h
  expired_by q operation outcome.Queued s t h = timed_out q operation outcome.Queued s t h
  expired_by q operation outcome.Late s t h = timed_out q operation outcome.Late s t h
  expired_by q operation (outcome.Crowded first second) s t h = timed_out q operation (outcome.Crowded first second) s t h
  expired_by q operation _ s t h = elim h [ ]

  joined_by : (q : id_plan.Plan) (operation : ℕ) (by : Outcome) (s t : CallStand) → JoinedBy q operation by s t → Changes s t
  joined_by q operation outcome.NotBegun s t h = same s t h.same
  joined_by q operation outcome.Joined s t h = let u = found_id q operation h.id s in let x : CallStand = record { view = h.view; books = s.books } in
      in_turn s u t (sees s u (keeps s.view u.view (call_index q operation) false h.id refl) refl) (in_turn u x t (sees u x (finds u.view h.view h.quiet) refl) (same x t h.after))
  joined_by q operation _ s t h = elim h [ ]

  -- ## Messages

  told_drop : (slots : ℕ) (msg : Undelivered) (code : ℕ) (s t : CallStand) → ToldDrop slots msg code s t → Changes s t
  told_drop slots msg code s t (of_send e is) = same s t is
  told_drop slots msg code s t (of_call ne p) = posts s t slots msg.owner code (Some msg.label.attempt) p

  module _ {O : Type 0} (state : O → OutState) (p : Plan) (slots : ℕ) where
    dropped_all : (id : ℕ) (v : sock_view.View) (s : CallStand) (w : sock_view.View) (t : CallStand) → DroppedAll state p slots id v s w t → Changes s t
    dropped_all id v s _ _ draining.none = same s s refl
    dropped_all id v s _ _ (draining.one_more u r w t more one) = in_turn s r t (dropped_all id v s u r more) (told_drop slots one.msg one.code r t one.told)

    drained : (id : ℕ) (v : sock_view.View) (s : CallStand) (w : sock_view.View) (t : CallStand) → Drained state p slots id v s w t → Changes s t
    drained id v s w t d = dropped_all id v s d.last t d.dropped

    delivered : (sock : SockRef) (msg : Letter) (by : Maybe Outcome) (v : sock_view.View) (s : CallStand) (w : sock_view.View) (t : CallStand) → DeliveredCalling state p slots sock msg by v s w t → Changes s t
    delivered sock msg None v s w t d = drained sock.id.0 d.taken s d.through.wrote t d.through.drained
    delivered sock msg (Some (outcome.Gone found)) v s w t d = same s t d.1
    delivered sock msg (Some outcome.Full) v s w t d = same s t d.1
    delivered sock msg (Some _) v s w t d = elim d [ ]

    sent_calling : (n : ℕ) (msg : Letter) (by : Maybe Outcome) (v : sock_view.View) (s : CallStand) (w : sock_view.View) (t : CallStand) → SentCalling state p slots n msg by v s w t → Changes s t
    sent_calling n msg None v s w t h = delivered h.sock msg None h.has s w t h.delivered
    sent_calling n msg (Some outcome.Unopened) v s w t h = same s t h.1
    sent_calling n msg (Some (outcome.Gone found)) v s w t (inl h) = same s t h.1
    sent_calling n msg (Some (outcome.Gone found)) v s w t (inr h) = delivered h.sock msg (Some (outcome.Gone found)) h.has s w t h.delivered
    sent_calling n msg (Some outcome.Full) v s w t h = delivered h.sock msg (Some outcome.Full) h.has s w t h.delivered
    sent_calling n msg (Some _) v s w t h = elim h [ ]

  -- ## Attempts

  module _ {O : Type 0} (state : O → OutState) (p : Plan) (q : id_plan.Plan) where
    delivered_by : (socket : SocketId) (msg : Letter) (s t : Both) → DeliveredBy state p q socket msg s t → Changes s.calls t.calls
    delivered_by socket msg s t (went_out w) = drained state p q.slots socket.0 w.taken s.calls w.through.wrote t.calls w.through.drained
    delivered_by socket msg s t (came_back by c) = posts s.calls t.calls q.slots msg.owner (code_for by) (Some msg.label.attempt) c.posted

    attempted_by : (socket : SocketId) (msg : Letter) (s t : Both) → AttemptedBy state p q socket msg s t → Changes s.calls t.calls
    attempted_by socket msg s t (nowhere g) = posts s.calls t.calls q.slots msg.owner EFAILEDSOCKET (Some msg.label.attempt) g.posted
    attempted_by socket msg s t (over_link u l d) = in_turn s.calls u.calls t.calls (sees s.calls u.calls (keeps s.calls.view u.calls.view _ _ _ l.stored) l.books) (delivered_by socket msg u t d)

    made_for : (asked : Asked) → AsksFor xs asked → (id : ℕ) (socket : SocketId) (s t : Both) → MadeFor state p q asked id socket s t → Changes s.calls t.calls
    made_for asked own id socket s t m = let u : CallStand = record { view = m.view; books = s.calls.books } in
        in_turn s.calls u t.calls (sees s.calls u (makes s.calls.view m.view q.slots id asked own m.made) refl) (sees u t.calls (keeps m.view t.calls.view _ _ _ m.noted) m.books)

    called_by : (asked : Asked) → AsksFor xs asked → (by : Called) (s t : Both) → CalledBy state p q asked by s t → Changes s.calls t.calls
    called_by asked own called.Unopened s t h = same s.calls t.calls h.1
    called_by asked own called.NoSlot s t h = sees s.calls t.calls (finds s.calls.view t.calls.view h.quiet) h.books
    called_by asked own (called.Begun id) s t h = in_turn s.calls h.at.calls t.calls (made_for asked own id h.socket s h.at h.made_for) (attempted_by h.socket _ h.at t h.attempted)

    wanted_by : (asked : Asked) → AsksFor xs asked → (s t : Both) → WantedBy state p q asked s t → Changes s.calls t.calls
    wanted_by asked own s t (before_id socket n) = same s.calls t.calls n.calls
    wanted_by asked own s t (behind_id id socket u m e g) = in_turn s.calls u.calls t.calls (made_for asked own id socket s u m) (in_turn u.calls (wanting u.calls) t.calls (wants u.calls (wanting u.calls) refl) (given_up q.slots id (wanting u.calls) t.calls g))

    went_to : (name : ℕ) (msg : Letter) (s t : Both) → WentTo state p q name msg s t → Changes s.calls t.calls
    went_to name msg s t (stray a e h) = posts s.calls t.calls q.slots msg.owner EFAILEDSOCKET (Some msg.label.attempt) h
    went_to name msg s t (unopened f h) = posts s.calls t.calls q.slots msg.owner EFAILEDSOCKET (Some msg.label.attempt) h
    went_to name msg s t (to_socket socket u f e a) = in_turn s.calls u.calls t.calls (same s.calls u.calls e) (attempted_by socket msg u t a)

    locked : (r : Retry) (k : IdLock Asked) (s t : Both) → Locked state p q r k s t → Changes s.calls t.calls
    locked r k s t l = sees s.calls t.calls (locks s.calls.view t.calls.view q.slots r.id k l.got) l.books

    retried_by : (r : Retry) (s t : Both) → RetriedBy state p q r s t → Changes s.calls t.calls
    retried_by r s t (had_ended h) = sees s.calls t.calls (finds s.calls.view t.calls.view h.gone.quiet) h.books
    retried_by r s t (overtaken k u l o) = let x : CallStand = record { view = o.view; books = u.calls.books } in
        in_turn s.calls u.calls t.calls (locked r k s u l) (in_turn u.calls x t.calls (sees u.calls x (unlocks u.calls.view o.view k false (unlocked.Next o.next o.code o.attempt) o.unlocked) refl) (decides x t.calls o.next o.code o.attempt o.decided))
    retried_by r s t (went_again k u l w) = let x : CallStand = record { view = w.view; books = u.calls.books } in
        in_turn s.calls u.calls t.calls (locked r k s u l) (in_turn u.calls x t.calls (sees u.calls x (unlocks u.calls.view w.view k false unlocked.Open w.unlocked) refl) (went_to _ _ (record { socks = u.socks; calls = x }) t w.went))

    gave_up : (r : Retry) (s t : Both) → GaveUp state p q r s t → Changes s.calls t.calls
    gave_up r s t g = let u = g.at.calls in in_turn s.calls u t.calls (locked r g.lock s g.at g.locked) (in_turn u (wanting u) t.calls (wants u (wanting u) refl) (ends (wanting u) t.calls g.lock EINTERNAL g.ended))

    taken_out : (rest : List Retry) (s : Both) → Changes s.calls (without_oldest rest s).calls
    taken_out rest s = shelves s.calls (without_oldest rest s).calls rest refl

    retried : (s t : Both) → Retried state p q s t → Changes s.calls t.calls
    retried s _ none_yet = same s.calls s.calls refl
    retried s _ (one_more u t r rest more e f by) = let x = without_oldest rest u in
        in_turn s.calls u.calls t.calls (retried s u more) (in_turn u.calls x.calls t.calls (taken_out rest u) (retried_by r x t by))

    ran_out : (sent : ℕ) (s t : Both) → RanOut state p q sent s t → Changes s.calls t.calls
    ran_out sent s t (for_frame u r rest more e f g) = let x = without_oldest rest u in
        in_turn s.calls u.calls t.calls (retried s u more) (in_turn u.calls x.calls t.calls (taken_out rest u) (gave_up r x t g))
    ran_out sent s t (before_next u more cause is) = in_turn s.calls u.calls t.calls (retried s u more) (wants u.calls t.calls (ap (λ (y : Both). y.calls) is))

  -- ## A client's run

  -- where the operation is a call, it is one of these
  abbrev Asks : Op → Type 0
  Asks op = (asked : Asked) → op ≡ ops.Call asked → AsksFor xs asked

  -- what the operation at this place asks for
  asks_at : (n : ℕ) (x : Task) → get_elem? xs n ≡ some x → Asks x.op
  asks_at n x at asked is = let task : Op → Task = λ op. record { number = x.number; op = op } in record { place = n; number = x.number; there = at ∙ ap (λ (op : Op). some (task op)) is }

  module _ {O : Type 0} {g : Ghosts O} (state : O → OutState) (p : Plan) (q : id_plan.Plan) where
    retried_here : (s t : Stand g) → RetriedHere state p q s t → Changes s.calls t.calls
    retried_here s t r = retried state p q (both_of s) (both_of t) r.all.retried

    acted : (number : ℕ) (op : Op) → Asks op → (by : Maybe Outcome) (s t : Stand g) → Acted state p q number op by s t → Changes s.calls t.calls
    acted number (ops.Open n k) own (Some by) s t h = same s.calls t.calls h.2
    acted number (ops.Send n bytes) own by s t h = sent_calling state p q.slots n (letter_of number bytes) by s.me.0 s.calls t.me.0 t.calls h.0
    acted number (ops.Call asked) own (Some outcome.Unopened) s t h = called_by state p q asked (own asked refl) called.Unopened (both_of s) (both_of t) h.0
    acted number (ops.Call asked) own None s t h = called_by state p q asked (own asked refl) (called.Begun h.0) (both_of s) (both_of t) h.1
    acted number (ops.Expire of) own (Some by) s t h = expired_by q of by s.calls t.calls h.0
    acted number (ops.Join of) own (Some by) s t h = joined_by q of by s.calls t.calls h.0
    acted number (ops.Hold n) own (Some by) s t h = same s.calls t.calls h.2
    acted number (ops.Drop n) own (Some by) s t h = same s.calls t.calls h.2
    acted number (ops.Fail n code) own (Some by) s t h = same s.calls t.calls h.2
    acted number _ own _ s t h = elim h [ ]

    made : (x : Task) → Asks x.op → (s t : Course g) → Made state p q x s t → Changes s.has.calls t.has.calls
    made x own s t m = in_turn s.has.calls m.ready.calls t.has.calls (retried_here s.has m.ready m.retried) (acted x.number x.op own m.by m.ready t.has m.acted)

    ran : (n : ℕ) (s t : Course g) → Ran state p q xs n s t → Changes s.has.calls t.has.calls
    ran zero s t e = same s.has.calls t.has.calls (ap (λ (c : Course g). c.has.calls) e)
    ran (suc n) s t h = in_turn s.has.calls h.0.has.calls t.has.calls (ran n s h.0 h.2) (made h.1 (asks_at n h.1 h.3) h.0 t h.4)

    not_called : (asked : Asked) → AsksFor xs asked → (s t : Stand g) → NotCalled state p q asked s t → Changes s.calls t.calls
    not_called asked own s t (for_memory w) = wanted_by state p q asked own (both_of s) (both_of t) w
    not_called asked own s t (for_slots c) = called_by state p q asked own called.NoSlot (both_of s) (both_of t) c

    stops : (n : ℕ) (s t : Stand g) → Stops state p q xs n s t → Changes s.calls t.calls
    stops n s t (without_room e) = wants s.calls t.calls (ap (λ (y : Stand g). y.calls) e)
    stops n s t (while_retrying sent r own) = ran_out state p q sent (both_of s) (both_of t) r
    stops n s t (while_calling r number asked before at c own) = in_turn s.calls r.calls t.calls (retried_here s r before) (not_called asked (record { place = n; number = number; there = at }) r t c)

    ends_by : (short : Bool) (n : ℕ) (s t : Stand g) → EndsBy state p q short xs n s t → Changes s.calls t.calls
    ends_by false n s t h = retried_here s t h.1
    ends_by true n s t h = in_turn s.calls h.0.calls t.calls (stops n s h.0 h.1) (starved_by q.slots h.0.calls t.calls h.2)

  left_by : {O : Type 0} {g : Ghosts O} (p : Plan) (number : ℕ) (op : Op) (s t : Stand g) → LeftBy p number op s t → Changes s.calls t.calls
  left_by p number (ops.Open n k) s t h = same s.calls t.calls h.4
  left_by {O} {g} p number _ s t h = same s.calls t.calls (ap (λ (y : Stand g). y.calls) h)

  left_all : {O : Type 0} {g : Ghosts O} (p : Plan) (ys : List Task) (s t : Stand g) → LeftAll p ys s t → Changes s.calls t.calls
  left_all {O} {g} p [] s t h = same s.calls t.calls (ap (λ (y : Stand g). y.calls) h)
  left_all p (y ∷ ys) s t h = in_turn s.calls h.0.calls t.calls (left_by p y.number y.op s h.0 h.1) (left_all p ys h.0 t h.2)

pub run_changes : {O : Type 0} {g : Ghosts O} {state : O → OutState} {p : Plan} {q : id_plan.Plan} {short : Bool} {xs : List Task} (c d : Caller O g) → RunBy state p q short xs c d → Changes xs (stand_of c.calls) (stand_of d.calls)
run_changes {O} {g} {state} {p} {q} {short} {xs} c d r =
    let a = stand_of c.calls in let b = stand_of r.came.calls in let e = stand_of d.calls in
    in_turn a b e (ran xs state p q r.made (begins c) (record { has = stand r.came; told = r.came.outcomes.items; names = r.ran.names }) r.ran.ran) (in_turn b r.last.calls e (ends_by xs state p q short r.made (stand r.came) r.last r.ends)
    (in_turn r.last.calls r.end.calls e (left_all xs p (drop r.made xs) r.last r.end r.left) (same r.end.calls e r.calls)))
