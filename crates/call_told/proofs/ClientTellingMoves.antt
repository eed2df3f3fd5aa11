-- What a client notes, keeps in mind and tells of calls by its run: what it knows it knows still, what it told stays told, and memory that is there was always there; it stores an id for an operation once for each call that is this operation, and what it tells are ends of calls that it had locked.
use Rattle.std.proofs.Common.{◌≡◌, ℕ, zero, suc, ◌+◌, ◌<◌, ◌≤◌, ◌⊎◌, inl, inr, true, false, List, [], ◌∷◌, Some, None, take, drop, refl, sym, ap, ◌∙◌, subst, arith}
use Rattle.std.specs.Prelude.{Option as Maybe}
use Rattle.std.specs.List.{AllByRecursion}
use Rattle.std.proofs.lemmas.List.{drop_all}
use mathlib.Core.Logic.{dite}
use mathlib.Core.Option.{some, some-injective, some-ne-none}
use native.Mathlib.Decide.{ℕ_discrete}
use lib.ListN.{get_elem?}
use Rattle.sock_io.specs.declared.link.Out.{Ghosts}
use Rattle.sock_io.specs.LinkHalves.{OutState}
use Rattle.sock_words.specs.ErrorCodes.{EFAILEDSOCKET, EINTERNAL, ERPCTIMEDOUT}
use Rattle.sock_words.specs.declared.plain.Plan.{Plan}
use Rattle.sock_words.specs.declared.socket_id.SocketId.{SocketId}
use Rattle.sock_words.specs.declared.outcome.Outcome.{Outcome}
use Rattle.sock_words.specs.declared.outcome.Outcome.TheVariants as outcome
use Rattle.sock_model.specs.declared.view.View as sock_view
use Rattle.call_deeds.specs.Below.SockRule.Letter.{Letter}
use Rattle.call_deeds.specs.Below.SockTable.SockRef.{SockRef}
use Rattle.seat_programs.specs.declared.task.Op.{Op}
use Rattle.seat_programs.specs.declared.task.Op.TheVariants as ops
use Rattle.seat_programs.specs.declared.task.Task.{Task}
use Rattle.call_deeds.specs.Below.WriteChain.Undelivered.{Undelivered}
use Rattle.corr_core.specs.IdSlotWord.{Parts, parts}
use Rattle.corr_core.specs.IdSlotLaw.{only}
use Rattle.corr_core.specs.declared.marks.Note.{Note}
use Rattle.corr_core.specs.declared.marks.Note.TheVariants.{Ended}
use Rattle.corr_core.specs.declared.marks.Plan as id_plan
use Rattle.corr_core.specs.declared.marks.View.{View}
use Rattle.corr_core.proofs.NoteSums.{only-at, only-else}
use Rattle.id_rule.specs.LawfulIdTable.{at_index, call_index, notes_of}
use Rattle.sock_message.specs.Asked.{Asked}
use Rattle.corr_id.specs.declared.calls.IdLock.{IdLock}
use Rattle.corr_id.specs.declared.posts.Posted.{Posted}
use Rattle.corr_id.specs.declared.posts.Posted.TheVariants.{Locked as HasLock, Gone, Crowded}
use Rattle.corr_id.specs.SeatBehindIdCalls.{one}
use Rattle.corr_id.specs.PostAnswers.{PostOk}
use Rattle.call_deeds.specs.Below.CallErrors.Retry.{Retry}
use Rattle.call_deeds.specs.Below.CallErrors.ClientBooks.{Books, CallStand, stand_of, starving, Tells, told, lost}
use Rattle.call_deeds.specs.Below.CallErrors.CallEndsWithCode.{EndedWith, failed}
use Rattle.call_deeds.specs.Below.CallErrors.Handling.{Decided}
use Rattle.call_deeds.specs.Below.CallErrors.Handling as handling
use Rattle.call_deeds.specs.Below.CallErrors.PostedErrors.{Handled, PostedBy}
use Rattle.call_deeds.specs.Below.CallErrors.ExpireAndJoinOutcomes.{found_id, TimedOut, ExpiredBy, JoinedBy}
use Rattle.call_deeds.specs.Below.CallWrites.Draining.{ToldDrop, of_send, of_call, DroppedAll, Drained}
use Rattle.call_deeds.specs.Below.CallWrites.Draining as draining
use Rattle.call_deeds.specs.Below.CallWrites.MessageFateBesideCalls.{DeliveredCalling, SentCalling}
use Rattle.call_deeds.specs.Below.CallAttempts.CalledVariants as called
use Rattle.call_deeds.specs.Below.CallAttempts.ClientAtBothTables.{Both}
use Rattle.call_deeds.specs.Below.CallAttempts.Attempting.{code_for, DeliveredBy, went_out, came_back, AttemptedBy, nowhere, over_link}
use Rattle.call_deeds.specs.Below.CallAttempts.CallBeginning.{MadeFor, CalledBy}
use Rattle.call_deeds.specs.Below.CallAttempts.WaitingRetries.{without_oldest, WentTo, stray, unopened, to_socket, Locked, RetriedBy, had_ended, overtaken, went_again, Retried, none_yet, one_more}
use Rattle.call_deeds.specs.Below.CallClient.Caller.{Caller}
use Rattle.call_deeds.specs.Below.CallClient.ClientBetweenOperations.{Stand, stand, both_of, letter_of, Acted}
use Rattle.call_deeds.specs.Below.CallClient.ClientRun.{Course, RetriedHere, Made, Ran, begins, RunBy}
use Rattle.call_told.specs.Least.{is_locked_for}
use Rattle.call_told.proofs.ToldCallEnds.{HasLocked, got_locked, IsEndIn, AreEndsIn, ends_in_later}
use Rattle.call_told.proofs.GrowingCallNotes.{Grows, grows_same, grows_then, quiet_grows, did_grows, ended_grows, post_grows, kept_grows}
use Rattle.call_told.proofs.ListElementsByPlace.{all_both, all_at}
use Rattle.call_told.proofs.Onward.{Onward, onward_as, onward_then, onward_starving, onward_tells}
use Rattle.call_told.proofs.RunsTellNotedEnds.{none_left}
use Rattle.sock_words.specs.PackedWords.{id_slot}
use Rattle.sock_words.specs.Totals.{total}

-- the lock of the error that is handed out instead of a lock
next_locked : (k l : IdLock Asked) (v w : View Asked) → ((j : ℕ) (g : Note Asked → ℕ) → total g (notes_of j v.notes) ≤ total g (notes_of j w.notes)) → l.slot ≡ k.slot → (parts l.word.0).first ≡ (parts k.word.0).first → l.content ≡ k.content
    → HasLocked k.slot (parts k.word.0).first k.content.operation v → HasLocked l.slot (parts l.word.0).first l.content.operation w
next_locked k l v w grows slot first content h =
    let a : total (is_locked_for (parts l.word.0).first l.content.operation) (notes_of l.slot w.notes) ≡ total (is_locked_for (parts k.word.0).first k.content.operation) (notes_of k.slot w.notes)
    = λ i. total (is_locked_for (first i) (content i).operation) (notes_of (slot i) w.notes) in
    let b = grows k.slot (is_locked_for (parts k.word.0).first k.content.operation) in omega arith

-- the word of an operation's call is none that tells of its attempts
at_no_call : (q : id_plan.Plan) (o n : ℕ) → only (call_index q o) (at_index q n) ≤ 0
at_no_call q o n = let e = only-else (call_index q o) (at_index q n) (λ (h : at_index q n ≡ call_index q o). omega arith) in omega arith

-- and another one for each operation
call_of_one : (q : id_plan.Plan) (o n : ℕ) → only (call_index q o) (call_index q n) ≤ only o n
call_of_one q o n = dite (ℕ_discrete n o)
    (λ e. let a = only-at o n e in let b = only-at (call_index q o) (call_index q n) (ap (call_index q) e) in omega arith)
    (λ ne. let b = only-else (call_index q o) (call_index q n) (λ (h : call_index q n ≡ call_index q o). ne (omega arith)) in omega arith)

-- the call that a task asks for is its own operation
abbrev pub Fits : Task → Type 0
Fits x = (asked : Asked) → x.op ≡ ops.Call asked → asked.operation ≡ x.number

-- 1 where it is this operation
abbrev pub is_task : ℕ → Task → ℕ
is_task operation x = only operation x.number

module _ (q : id_plan.Plan) (operation : ℕ) where
  -- so many ids more are stored for this operation at most, and what was known and told stays
  pub record Moves (n : ℕ) (s t : CallStand) : Type 0 where
    pub grows : Grows (call_index q operation) n s.view t.view
    pub books : Onward s.books t.books
    pub ends : AreEndsIn q.slots s.view s.books.told → AreEndsIn q.slots t.view t.books.told

  abbrev place : ℕ
  place = call_index q operation

  pub moves_then : (m n k : ℕ) (s u t : CallStand) → m + n ≤ k → Moves m s u → Moves n u t → Moves k s t
  moves_then m n k s u t le a b = record { grows = grows_then place m n k s.view u.view t.view le a.grows b.grows; books = onward_then s.books u.books t.books a.books b.books; ends = λ h. b.ends (a.ends h) }

  -- both store nothing for it
  in_turn : (s u t : CallStand) → Moves 0 s u → Moves 0 u t → Moves 0 s t
  in_turn s u t a b = moves_then 0 0 0 s u t (omega arith) a b

  -- nothing is told, whatever retries are kept
  moves_kept : (n : ℕ) (s t : CallStand) → Grows place n s.view t.view → t.books.told ≡ s.books.told → t.books.starved ≡ s.books.starved → Moves n s t
  moves_kept n s t g e f = record { grows = g; books = onward_as s.books t.books e f; ends = λ h. subst (AreEndsIn q.slots t.view) (sym e) (ends_in_later q.slots s.view t.view g.notes s.books.told h) }

  moves_seen : (n : ℕ) (s t : CallStand) → Grows place n s.view t.view → t.books ≡ s.books → Moves n s t
  moves_seen n s t g e = moves_kept n s t g (ap (λ (y : Books). y.told) e) (ap (λ (y : Books). y.starved) e)

  pub moves_same : (n : ℕ) (s t : CallStand) → t ≡ s → Moves n s t
  moves_same n s t e = moves_seen n s t (grows_same place n s.view t.view (ap (λ (y : CallStand). y.view) e)) (ap (λ (y : CallStand). y.books) e)

  -- ## Errors of calls

  -- the call of a lock, whose slot is one of the table's
  abbrev pub HasIt : IdLock Asked → View Asked → Type 0
  HasIt k v = (k.slot < q.slots) × HasLocked k.slot (parts k.word.0).first k.content.operation v

  next_it : (k l : IdLock Asked) (v w : View Asked) → ((j : ℕ) (g : Note Asked → ℕ) → total g (notes_of j v.notes) ≤ total g (notes_of j w.notes)) → l.slot ≡ k.slot → (parts l.word.0).first ≡ (parts k.word.0).first → l.content ≡ k.content → HasIt k v → HasIt l w
  next_it k l v w grows slot first content h = (subst (λ (n : ℕ). n < q.slots) (sym slot) h.0, next_locked k l v w grows slot first content h.1)

  lock_ends : (k : IdLock Asked) (code : ℕ) (s t : CallStand) → HasIt k s.view → EndedWith k code s t → Moves 0 s t
  lock_ends k code s t has e = record { grows = grown; books = onward_tells (failed k code) s.books t.books e.tells; ends = λ h. by h e.tells }
    where
      grown : Grows place 0 s.view t.view
      grown = ended_grows place k.slot s.view t.view [] (one k.slot (Ended (parts k.word.0).first (parts k.word.0).attempt)) e.ended

      now : IsEndIn q.slots t.view (failed k code)
      now = record {
        is = record {
          slot = k.slot;
          first = (parts k.word.0).first;
          low = (let a = k.fits.low in omega arith);
          is_end = λ id. refl;
          locked = (let a = grown.notes k.slot (is_locked_for (parts k.word.0).first k.content.operation) in let b = has.1 in omega arith);
        };
        inside = has.0;
      }

      by : AreEndsIn q.slots s.view s.books.told → Tells (failed k code) s.books t.books → AreEndsIn q.slots t.view t.books.told
      by h (told is) = subst (AreEndsIn q.slots t.view) (sym (ap (λ (b : Books). b.told) is)) (all_both (IsEndIn q.slots t.view) s.books.told (failed k code ∷ []) (ends_in_later q.slots s.view t.view grown.notes s.books.told h) (now, tt))
      by h (lost is) = subst (AreEndsIn q.slots t.view) (sym (ap (λ (b : Books). b.told) is)) (ends_in_later q.slots s.view t.view grown.notes s.books.told h)

  starved_ends : (k : IdLock Asked) (s t : CallStand) → HasIt k s.view → EndedWith k EINTERNAL (record { view = s.view; books = starving s.books }) t → Moves 0 s t
  starved_ends k s t has e = let m = lock_ends k EINTERNAL (record { view = s.view; books = starving s.books }) t has e in
      record { grows = m.grows; books = onward_then s.books (starving s.books) t.books (onward_starving s.books) m.books; ends = m.ends }

  pub decided : {s : CallStand} {k : IdLock Asked} {code : ℕ} {attempt : Maybe ℕ} {t : CallStand} → Decided s k code attempt t → HasIt k s.view → Moves 0 s t
  decided (handling.ends s k code attempt t a b e) has = lock_ends k code s t has e
  decided (handling.starves s k code attempt t a e) has = starved_ends k s t has e
  decided (handling.waits s k code attempt t a b e) has = moves_kept 0 s t (did_grows place k.slot s.view t.view _ _ e.unlocked.4) (ap (λ (y : Books). y.told) e.kept) (ap (λ (y : Books). y.starved) e.kept)
  decided (handling.goes_on s k code attempt t u l next of a b e rest) has =
      let g = did_grows place k.slot s.view u.view _ _ e.unlocked.3 in let r = e.unlocked.4.1 in
      in_turn s u t (moves_kept 0 s u g (ap (λ (y : Books). y.told) e.kept) (ap (λ (y : Books). y.starved) e.kept))
      (decided rest (next_it k l s.view u.view g.notes e.unlocked.0 (ap (λ (w : Parts). w.first) r.left.1 ∙ r.same_id) e.unlocked.1 has))

  handled : (id code : ℕ) (attempt : Maybe ℕ) (answer : Posted Asked) (u s t : CallStand) → PostOk q.slots u.view s.view id code attempt answer → Handled code attempt answer s t → Moves 0 s t
  handled id code attempt (HasLock k) u s t post d = decided d (post.1, got_locked k.slot u.view s.view post.4.0 (parts k.word.0) k.content post.4.1)
  handled id code attempt _ u s t post e = moves_same 0 s t e

  pub posted : (s : CallStand) (id code : ℕ) (attempt : Maybe ℕ) (t : CallStand) → PostedBy q.slots s id code attempt t → Moves 0 s t
  posted s id code attempt t p =
      let v = p.1.view in let u : CallStand = record { view = v; books = s.books } in
      in_turn s u t (moves_seen 0 s u (post_grows place q.slots s.view v id code attempt p.0 p.1.post) refl) (handled id code attempt p.0 s u t p.1.post p.1.handled)

  -- an id was found noted
  seen_id : (number id : ℕ) (s : CallStand) → Moves 0 s (found_id q number id s)
  seen_id number id s = let u = found_id q number id s in moves_seen 0 s u (kept_grows place 0 s.view u.view (call_index q number) false id refl (omega arith)) refl

  timed_out : (number : ℕ) (by : Outcome) (s t : CallStand) → TimedOut q number by s t → Moves 0 s t
  timed_out number by s t h = let u = found_id q number h.id s in in_turn s u t (seen_id number h.id s) (posted u h.id ERPCTIMEDOUT None t (h.answer, h.posted))

  pub expired_by : (number : ℕ) (by : Outcome) (s t : CallStand) → ExpiredBy q number by s t → Moves 0 s t
  expired_by number outcome.NotBegun s t h = moves_same 0 s t h.same
  expired_by number outcome.Expired s t h = timed_out number outcome.Expired s t h
  expired_by number outcome.Queued s t h = timed_out number outcome.Queued s t h
  expired_by number outcome.Late s t h = timed_out number outcome.Late s t h
  expired_by number (outcome.Crowded first second) s t h = timed_out number (outcome.Crowded first second) s t h
  expired_by number _ s t h = elim h [ ]

  joined_by : (number : ℕ) (by : Outcome) (s t : CallStand) → JoinedBy q number by s t → Moves 0 s t
  joined_by number outcome.NotBegun s t h = moves_same 0 s t h.same
  joined_by number outcome.Joined s t h = let u = found_id q number h.id s in
      in_turn s u t (seen_id number h.id s) (moves_seen 0 u t (grows_then place 0 0 0 u.view h.view t.view (omega arith) (quiet_grows place u.view h.view h.quiet) (grows_same place 0 h.view t.view (ap (λ (y : CallStand). y.view) h.after))) (ap (λ (y : CallStand). y.books) h.after))
  joined_by number _ s t h = elim h [ ]

  -- ## Messages

  told_drop : (msg : Undelivered) (code : ℕ) (s t : CallStand) → ToldDrop q.slots msg code s t → Moves 0 s t
  told_drop msg code s t (of_send e is) = moves_same 0 s t is
  told_drop msg code s t (of_call ne p) = posted s msg.owner code (Some msg.label.attempt) t p

  module _ {O : Type 0} (state : O → OutState) (p : Plan) where
    dropped_all : (id : ℕ) (v : sock_view.View) (s : CallStand) (w : sock_view.View) (t : CallStand) → DroppedAll state p q.slots id v s w t → Moves 0 s t
    dropped_all id v s _ _ draining.none = moves_same 0 s s refl
    dropped_all id v s _ _ (draining.one_more u r w t more one) = in_turn s r t (dropped_all id v s u r more) (told_drop one.msg one.code r t one.told)

    drained : (id : ℕ) (v : sock_view.View) (s : CallStand) (w : sock_view.View) (t : CallStand) → Drained state p q.slots id v s w t → Moves 0 s t
    drained id v s w t d = dropped_all id v s d.last t d.dropped

    delivered : (sock : SockRef) (msg : Letter) (by : Maybe Outcome) (v : sock_view.View) (s : CallStand) (w : sock_view.View) (t : CallStand) → DeliveredCalling state p q.slots sock msg by v s w t → Moves 0 s t
    delivered sock msg None v s w t d = drained sock.id.0 d.taken s d.through.wrote t d.through.drained
    delivered sock msg (Some (outcome.Gone found)) v s w t d = moves_same 0 s t d.1
    delivered sock msg (Some outcome.Full) v s w t d = moves_same 0 s t d.1
    delivered sock msg (Some _) v s w t d = elim d [ ]

    sent_calling : (n : ℕ) (msg : Letter) (by : Maybe Outcome) (v : sock_view.View) (s : CallStand) (w : sock_view.View) (t : CallStand) → SentCalling state p q.slots n msg by v s w t → Moves 0 s t
    sent_calling n msg None v s w t h = delivered h.sock msg None h.has s w t h.delivered
    sent_calling n msg (Some outcome.Unopened) v s w t h = moves_same 0 s t h.1
    sent_calling n msg (Some (outcome.Gone found)) v s w t (inl h) = moves_same 0 s t h.1
    sent_calling n msg (Some (outcome.Gone found)) v s w t (inr h) = delivered h.sock msg (Some (outcome.Gone found)) h.has s w t h.delivered
    sent_calling n msg (Some outcome.Full) v s w t h = delivered h.sock msg (Some outcome.Full) h.has s w t h.delivered
    sent_calling n msg (Some _) v s w t h = elim h [ ]

    -- ## Attempts

    delivered_by : (socket : SocketId) (msg : Letter) (s t : Both) → DeliveredBy state p q socket msg s t → Moves 0 s.calls t.calls
    delivered_by socket msg s t (went_out w) = drained socket.0 w.taken s.calls w.through.wrote t.calls w.through.drained
    delivered_by socket msg s t (came_back by c) = posted s.calls msg.owner (code_for by) (Some msg.label.attempt) t.calls c.posted

    pub attempted_by : (socket : SocketId) (msg : Letter) (s t : Both) → AttemptedBy state p q socket msg s t → Moves 0 s.calls t.calls
    attempted_by socket msg s t (nowhere g) = posted s.calls msg.owner EFAILEDSOCKET (Some msg.label.attempt) t.calls g.posted
    attempted_by socket msg s t (over_link u l d) = in_turn s.calls u.calls t.calls
        (moves_seen 0 s.calls u.calls (kept_grows place 0 s.calls.view u.calls.view (at_index q msg.label.operation) true _ l.stored (at_no_call q operation msg.label.operation)) l.books) (delivered_by socket msg u t d)

    made_for : (asked : Asked) (id : ℕ) (socket : SocketId) (s t : Both) → MadeFor state p q asked id socket s t → Moves (only operation asked.operation) s.calls t.calls
    made_for asked id socket s t m =
        let n = only operation asked.operation in let u : CallStand = record { view = m.view; books = s.calls.books } in
        moves_then 0 n n s.calls u t.calls (omega arith) (moves_seen 0 s.calls u (did_grows place (id_slot id) s.calls.view m.view _ _ m.made.did) refl)
        (moves_seen n u t.calls (kept_grows place n m.view t.calls.view (call_index q asked.operation) true id m.noted (call_of_one q operation asked.operation)) m.books)

    pub begun_by : (asked : Asked) (id : ℕ) (s t : Both) → CalledBy state p q asked (called.Begun id) s t → Moves (only operation asked.operation) s.calls t.calls
    begun_by asked id s t h = let n = only operation asked.operation in moves_then n 0 n s.calls h.at.calls t.calls (omega arith) (made_for asked id h.socket s h.at h.made_for) (attempted_by h.socket _ h.at t h.attempted)

    went_to : (name : ℕ) (msg : Letter) (s t : Both) → WentTo state p q name msg s t → Moves 0 s.calls t.calls
    went_to name msg s t (stray a e h) = posted s.calls msg.owner EFAILEDSOCKET (Some msg.label.attempt) t.calls h
    went_to name msg s t (unopened f h) = posted s.calls msg.owner EFAILEDSOCKET (Some msg.label.attempt) t.calls h
    went_to name msg s t (to_socket socket u f e a) = in_turn s.calls u.calls t.calls (moves_same 0 s.calls u.calls e) (attempted_by socket msg u t a)

    locked : (r : Retry) (k : IdLock Asked) (s t : Both) → Locked state p q r k s t → Moves 0 s.calls t.calls
    locked r k s t l = moves_seen 0 s.calls t.calls (did_grows place k.slot s.calls.view t.calls.view _ _ l.got.got.did) l.books

    retried_by : (r : Retry) (s t : Both) → RetriedBy state p q r s t → Moves 0 s.calls t.calls
    retried_by r s t (had_ended h) = moves_seen 0 s.calls t.calls (quiet_grows place s.calls.view t.calls.view h.gone.quiet) h.books
    retried_by r s t (overtaken k u l o) =
        let x : CallStand = record { view = o.view; books = u.calls.books } in
        let g = did_grows place k.slot u.calls.view o.view _ _ o.unlocked.3 in let n = o.unlocked.4.1 in
        in_turn s.calls u.calls t.calls (locked r k s u l) (in_turn u.calls x t.calls (moves_seen 0 u.calls x g refl)
        (decided o.decided (next_it k o.next u.calls.view o.view g.notes o.unlocked.0 (ap (λ (w : Parts). w.first) n.left.1 ∙ n.same_id) o.unlocked.1 (l.got.inside, got_locked k.slot s.calls.view u.calls.view l.got.word (parts k.word.0) k.content l.got.got))))
    retried_by r s t (went_again k u l w) =
        let x : CallStand = record { view = w.view; books = u.calls.books } in
        in_turn s.calls u.calls t.calls (locked r k s u l) (in_turn u.calls x t.calls (moves_seen 0 u.calls x (did_grows place k.slot u.calls.view w.view _ _ w.unlocked.4) refl) (went_to _ _ (record { socks = u.socks; calls = x }) t w.went))

    retried : (s t : Both) → Retried state p q s t → Moves 0 s.calls t.calls
    retried s _ none_yet = moves_same 0 s.calls s.calls refl
    retried s _ (one_more u t r rest more e f by) =
        let x = without_oldest rest u in
        in_turn s.calls u.calls t.calls (retried s u more) (in_turn u.calls x.calls t.calls (moves_kept 0 u.calls x.calls (grows_same place 0 u.calls.view x.calls.view refl) refl refl) (retried_by r x t by))

    -- ## A client's run

    abbrev is_it : Task → ℕ
    is_it x = is_task operation x

    took_one : (xs : List Task) (n : ℕ) (x : Task) → get_elem? xs n ≡ some x → total is_it (take n xs) + is_it x ≤ total is_it (take (suc n) xs)
    took_one [] n x e = absurd (some-ne-none x (sym e))
    took_one (y ∷ xs) zero x e = let a = ap is_it (some-injective y x e) in omega arith
    took_one (y ∷ xs) (suc n) x e = let a = took_one xs n x e in omega arith

    took_few : (xs : List Task) (n : ℕ) → total is_it (take n xs) ≤ total is_it xs
    took_few xs zero = omega arith
    took_few [] (suc n) = omega arith
    took_few (x ∷ xs) (suc n) = let a = took_few xs n in omega arith

    module _ {g : Ghosts O} where
      pub retried_here : (s t : Stand g) → RetriedHere state p q s t → Moves 0 s.calls t.calls
      retried_here s t r = retried (both_of s) (both_of t) r.all.retried

      acted : (number : ℕ) (op : Op) → ((asked : Asked) → op ≡ ops.Call asked → asked.operation ≡ number) → (by : Maybe Outcome) (s t : Stand g) → Acted state p q number op by s t → Moves (only operation number) s.calls t.calls
      acted number (ops.Open n k) fits (Some by) s t h = moves_same (only operation number) s.calls t.calls h.2
      acted number (ops.Send n bytes) fits by s t h = moves_then 0 0 (only operation number) s.calls s.calls t.calls (omega arith) (moves_same 0 s.calls s.calls refl) (sent_calling n (letter_of number bytes) by s.me.0 s.calls t.me.0 t.calls h.0)
      acted number (ops.Call asked) fits (Some outcome.Unopened) s t h = moves_same (only operation number) s.calls t.calls h.0.1
      acted number (ops.Call asked) fits None s t h = subst (λ (n : ℕ). Moves (only operation n) s.calls t.calls) (fits asked refl) (begun_by asked h.0 (both_of s) (both_of t) h.1)
      acted number (ops.Expire of) fits (Some by) s t h = moves_then 0 0 (only operation number) s.calls s.calls t.calls (omega arith) (moves_same 0 s.calls s.calls refl) (expired_by of by s.calls t.calls h.0)
      acted number (ops.Join of) fits (Some by) s t h = moves_then 0 0 (only operation number) s.calls s.calls t.calls (omega arith) (moves_same 0 s.calls s.calls refl) (joined_by of by s.calls t.calls h.0)
      acted number (ops.Hold n) fits (Some by) s t h = moves_same (only operation number) s.calls t.calls h.2
      acted number (ops.Drop n) fits (Some by) s t h = moves_same (only operation number) s.calls t.calls h.2
      acted number (ops.Fail n code) fits (Some by) s t h = moves_same (only operation number) s.calls t.calls h.2
      acted number _ fits _ s t h = elim h [ ]

      -- a call began
      pub record BeginsCall (op : Op) (s t : Stand g) : Type 0 where
        pub asked : Asked
        pub is_call : op ≡ ops.Call asked
        pub id : ℕ
        pub called : CalledBy state p q asked (called.Begun id) (both_of s) (both_of t)

      -- or no id was stored
      pub acted_or : (number : ℕ) (op : Op) (by : Maybe Outcome) (s t : Stand g) → Acted state p q number op by s t → Moves 0 s.calls t.calls ⊎ BeginsCall op s t
      acted_or number (ops.Open n k) (Some by) s t h = inl (moves_same 0 s.calls t.calls h.2)
      acted_or number (ops.Send n bytes) by s t h = inl (sent_calling n (letter_of number bytes) by s.me.0 s.calls t.me.0 t.calls h.0)
      acted_or number (ops.Call asked) (Some outcome.Unopened) s t h = inl (moves_same 0 s.calls t.calls h.0.1)
      acted_or number (ops.Call asked) None s t h = inr record { asked = asked; is_call = refl; id = h.0; called = h.1 }
      acted_or number (ops.Expire of) (Some by) s t h = inl (expired_by of by s.calls t.calls h.0)
      acted_or number (ops.Join of) (Some by) s t h = inl (joined_by of by s.calls t.calls h.0)
      acted_or number (ops.Hold n) (Some by) s t h = inl (moves_same 0 s.calls t.calls h.2)
      acted_or number (ops.Drop n) (Some by) s t h = inl (moves_same 0 s.calls t.calls h.2)
      acted_or number (ops.Fail n code) (Some by) s t h = inl (moves_same 0 s.calls t.calls h.2)
      acted_or number _ _ s t h = elim h [ ]

      pub made_moves : (x : Task) (s t : Course g) → Fits x → Made state p q x s t → Moves (only operation x.number) s.has.calls t.has.calls
      made_moves x s t fits m = moves_then 0 (only operation x.number) (only operation x.number) s.has.calls m.ready.calls t.has.calls (omega arith) (retried_here s.has m.ready m.retried) (acted x.number x.op fits m.by m.ready t.has m.acted)

      ran_moves : (xs : List Task) → AllByRecursion Fits xs → (n : ℕ) (s t : Course g) → Ran state p q xs n s t → Moves (total is_it (take n xs)) s.has.calls t.has.calls
      ran_moves xs fits zero s t e = moves_same (total is_it (take 0 xs)) s.has.calls t.has.calls (ap (λ (c : Course g). c.has.calls) e)
      ran_moves xs fits (suc n) s t h =
          moves_then (total is_it (take n xs)) (is_it h.1) (total is_it (take (suc n) xs)) s.has.calls h.0.has.calls t.has.calls (took_one xs n h.1 h.3) (ran_moves xs fits n s h.0 h.2) (made_moves h.1 h.0 t (all_at Fits xs n h.1 fits h.3) h.4)

      -- behind the operations: the retries that waited, and then nothing more
      pub end_moves : (xs : List Task) (c d : Caller O g) (r : RunBy state p q false xs c d) → Moves 0 (stand_of r.came.calls) (stand_of d.calls)
      end_moves xs c d r =
          let all : drop r.made xs ≡ [] = let n = r.ends.0 in drop_all r.made xs (omega arith) in
          in_turn (stand_of r.came.calls) r.last.calls (stand_of d.calls) (retried_here (stand r.came) r.last r.ends.1)
          (moves_same 0 r.last.calls (stand_of d.calls) (r.calls ∙ ap (λ (s : Stand g). s.calls) (none_left state p q r.last r.end (drop r.made xs) all r.left)))

      pub run_moves : (xs : List Task) (c d : Caller O g) → AllByRecursion Fits xs → RunBy state p q false xs c d → Moves (total (is_task operation) xs) (stand_of c.calls) (stand_of d.calls)
      run_moves xs c d fits r =
          moves_then (total is_it (take r.made xs)) 0 (total is_it xs) (stand_of c.calls) (stand_of r.came.calls) (stand_of d.calls) (let a = took_few xs r.made in omega arith)
          (ran_moves xs fits r.made (begins c) (record { has = stand r.came; told = r.came.outcomes.items; names = r.ran.names }) r.ran.ran) (end_moves xs c d r)
