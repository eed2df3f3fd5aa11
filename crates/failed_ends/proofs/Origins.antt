-- Each end of a call that a client told goes back to an error that it posted, or that was handed out of a locked word that it found, and so does each advance of an id that it noted; and each error that it queued is one that it posted.
use Rattle.std.proofs.Common.{◌*◌, ◌<◌, length, Bool, ◌≡◌, ℕ, zero, suc, ◌+◌, ◌⊎◌, inl, inr, true, false, cond, eqb, List, [], ◌∷◌, ◌++◌, Some, None, drop, refl, sym, ap, ◌∙◌, subst, arith}
use Rattle.std.specs.Prelude.{Option as Maybe}
use Rattle.std.specs.List.{AllByRecursion}
use Rattle.std.proofs.lemmas.List.{drop_all, append_assoc, append-nil}
use Rattle.std.proofs.lemmas.Nat.{div-add-mod'}
use mathlib.Core.Logic.{dite}
use mathlib.Core.Option.{some}
use native.Mathlib.Decide.{ℕ_discrete}
use lib.ListN.{get_elem?}
use Rattle.sock_io.specs.declared.link.Out.{Ghosts}
use Rattle.sock_io.specs.LinkHalves.{OutState}
use Rattle.sock_words.specs.ErrorCodes.{EFAILEDSOCKET, EINTERNAL, ERPCTIMEDOUT}
use Rattle.sock_words.specs.PackedWords.{socket_id_slot, id_slot, id_first}
use Rattle.sock_words.specs.declared.plain.Plan.{Plan}
use Rattle.sock_words.specs.declared.socket_id.SocketId.{SocketId}
use Rattle.sock_words.specs.declared.outcome.Outcome.{Outcome}
use Rattle.sock_words.specs.declared.outcome.Outcome.TheVariants as outcome
use Rattle.sock_model.specs.declared.view.View as sock_view
use Rattle.failed_reasons.specs.Below.SockRule.Letter.{Letter}
use Rattle.failed_reasons.specs.Below.SockTable.SockRef.{SockRef}
use Rattle.seat_programs.specs.declared.task.Op.{Op}
use Rattle.seat_programs.specs.declared.task.Op.TheVariants as ops
use Rattle.seat_programs.specs.declared.task.Task.{Task}
use Rattle.corr_core.specs.IdSlotWord.{Parts, parts}
use Rattle.corr_core.specs.IdSlotLaw.{is_queued, is_attempt, is_ended_at}
use Rattle.corr_core.specs.declared.marks.Note.{Note}
use Rattle.corr_core.specs.declared.marks.Note.TheVariants.{Made, Queued}
use Rattle.corr_core.specs.declared.marks.Noted.{Noted}
use Rattle.corr_core.specs.declared.marks.Token.{Token}
use Rattle.corr_core.specs.declared.marks.Plan as id_plan
use Rattle.corr_core.specs.declared.marks.View.{View}
use Rattle.corr_core.proofs.NoteSums.{pair-same}
use Rattle.corr_id.specs.id_rule.specs.LawfulIdTable.{call_index, notes_of}
use Rattle.sock_message.specs.Asked.{Asked}
use Rattle.corr_id.specs.declared.calls.IdLock.{IdLock}
use Rattle.corr_id.specs.declared.posts.Posted.{Posted}
use Rattle.corr_id.specs.declared.posts.Posted.TheVariants.{Locked as HasLock, Queued as IsQueued, Gone, Crowded}
use Rattle.corr_id.specs.SeatBehindIdCalls.{is_saw, error_in, one, Did, Quiet, Found, GotLock}
use Rattle.corr_id.specs.PostAnswers.{PostOk}
use Rattle.corr_id.specs.Unlocks.{UnlockOk}
use Rattle.corr_id.specs.declared.unlocks.Unlocked.TheVariants as unlocked
use Rattle.failed_reasons.specs.Below.CallErrors.Retry.{Retry}
use Rattle.failed_reasons.specs.Below.CallErrors.ClientBooks.{Books, CallStand, stand_of, starving, keeping, Tells, told, lost}
use Rattle.failed_reasons.specs.Below.CallErrors.CallEndsWithCode.{EndedWith, failed}
use Rattle.failed_reasons.specs.Below.CallErrors.Handling.{Decided, decision}
use Rattle.failed_reasons.specs.Below.CallErrors.Handling as handling
use Rattle.failed_reasons.specs.Below.CallErrors.PostedErrors.{Handled, PostedBy}
use Rattle.failed_reasons.specs.Below.CallErrors.ExpireAndJoinOutcomes.{found_id, outcome_by, TimedOut, ExpiredBy, JoinedBy}
use Rattle.failed_reasons.specs.Below.CallWrites.Draining.{ToldDrop, of_send, of_call, DroppedOne, DroppedAll, Drained}
use Rattle.failed_reasons.specs.Below.CallWrites.Draining as draining
use Rattle.failed_reasons.specs.Below.CallWrites.MessageFateBesideCalls.{DeliveredCalling, SentCalling}
use Rattle.failed_reasons.specs.Below.CallAttempts.CalledVariants as called
use Rattle.failed_reasons.specs.Below.CallAttempts.ClientAtBothTables.{Both}
use Rattle.failed_reasons.specs.Below.CallAttempts.Attempting.{code_for, DeliveredBy, went_out, came_back, AttemptedBy, nowhere, over_link}
use Rattle.failed_reasons.specs.Below.CallAttempts.CallBeginning.{CalledBy}
use Rattle.failed_reasons.specs.Below.CallAttempts.WaitingRetries.{without_oldest, WentTo, stray, unopened, to_socket, Locked, RetriedBy, had_ended, overtaken, went_again, Retried, none_yet, one_more}
use Rattle.failed_reasons.specs.Below.CallClient.Caller.{Caller}
use Rattle.failed_reasons.specs.Below.CallClient.ClientBetweenOperations.{Stand, stand, both_of, letter_of, Acted}
use Rattle.failed_reasons.specs.Below.CallClient.ClientRun.{Course, Ran, begins, RunBy}
use Rattle.failed_reasons.specs.Below.RpcClient.Told.{Told}
use Rattle.failed_reasons.specs.call_whys.specs.call_places.specs.DeedsOfCallClient.{Deed, operates, retries, retries_of, ran_deeds}
use Rattle.failed_reasons.specs.call_whys.specs.call_places.proofs.Still.{attempt_silent}
use Rattle.failed_reasons.specs.Below.CallClient.EndedCallsTelling.{did_total, none_of_one}
use Rattle.failed_reasons.specs.call_whys.specs.call_told.specs.Least.{is_made_for, is_locked_for}
use Rattle.failed_reasons.specs.call_whys.specs.call_told.proofs.ToldCallEnds.{made_silent, counted_here, HasLocked, got_locked}
use Rattle.failed_reasons.specs.call_whys.specs.call_told.proofs.ListElementsByPlace.{all_both, all_then}
use Rattle.failed_reasons.specs.call_whys.specs.call_told.proofs.RestingCallsEnded.{is_word}
use Rattle.failed_reasons.specs.call_whys.specs.call_told.proofs.RunsTellNotedEnds.{none_left}
use Rattle.failed_reasons.specs.call_whys.specs.call_places.specs.sock_deeds.proofs.Flats.{append_first, append_later}
use Rattle.failed_reasons.specs.call_whys.specs.call_places.specs.sock_deeds.proofs.GrowingSocketNotes.{stays, returned_grew}
use Rattle.failed_reasons.specs.Below.RpcClient.ToldOfOperation.{telling}
use Rattle.call_table.specs.declared.errors.Decision.TheVariants as decisions
use Rattle.failed_reasons.specs.Below.CallErrors.LockingByVersion.{id_in}
use Rattle.failed_reasons.specs.ErrorReasons.{Counts, StillHas, IsBehind, WasDropped, Reason, timed_out, missed, dropped, QueuedFor, AdvancedFor, Origin, posted_so, handed_out, IsSeen, Cause, IsCaused}
use Rattle.failed_reasons.specs.Missed.{delivery_missed, attempt_missed, went_missed, retry_missed, acted_missed, acted_id, IsMadeBy, IsBacked, socks_behind}
use Rattle.failed_reasons.proofs.NotesKeptWhileWriting.{still_as, still_then, wrote_still, drop_still}
use Rattle.failed_reasons.proofs.NotedErrorsInViews.{queued_silent, queued_in, advanced_in, Later, later_then, Stays, Steps, one_silent, queued_one, same_stays, then_stays, did_later, did_stays, quiet_stays, kept_stays, ended_stays, ended_over, got_stays, opened_stays, handed_stays, handed_later, opened_steps, handed_steps}
use Rattle.sock_words.specs.Totals.{total}

-- the lock that was got has the word that was found
got_seen : (v w : View Asked) (word : ℕ) (k : IdLock Asked) → GotLock k.slot v w word (parts k.word.0) k.content → IsSeen w k
got_seen v w word k g = record {
  word = word;
  found = g.found;
  taken = (let a = g.was_open in omega (arith, a));
  first_is = sym (ap (λ (y : Parts). y.first) g.word_is);
  range_is = sym (ap (λ (y : Parts). y.range) g.word_is);
}

-- the post of an `expire` that counts
timed_by : (answer : Posted Asked) (by : Outcome) → by ≡ outcome_by answer → Counts answer → (by ≡ outcome.Expired) ⊎ (by ≡ outcome.Queued)
timed_by (HasLock k) by e c = inl e
timed_by IsQueued by e c = inr e
timed_by _ by e c = elim c [ ]

-- its seat has the lock of a call that it had locked
abbrev HasLockOf : IdLock Asked → View Asked → Type 0
HasLockOf k v = HasLocked k.slot (parts k.word.0).first k.content.operation v

module _ {O : Type 0} {g : Ghosts O} (state : O → OutState) (p : Plan) (q : id_plan.Plan) (xs : List Task) (Says : ℕ → Outcome → Type 0) (ds : List (Deed g state p q)) where
  abbrev IsCausedHere : View Asked → Told → Type 0
  IsCausedHere v x = IsCaused state p q xs Says ds v x

  abbrev CauseHere : View Asked → IdLock Asked → ℕ → Maybe ℕ → Type 0
  CauseHere v k code attempt = Cause state p q xs Says ds v k code attempt

  abbrev ReasonHere : View Asked → ℕ → ℕ → Maybe ℕ → Type 0
  ReasonHere v id code attempt = Reason state p q xs Says ds v id code attempt

  abbrev pub QueuedHere : View Asked → ℕ → ℕ → ℕ → Type 0
  QueuedHere v i first e = QueuedFor state p q xs Says ds v i first e

  abbrev pub AdvancedHere : View Asked → ℕ → ℕ → ℕ → Type 0
  AdvancedHere v i first n = AdvancedFor state p q xs Says ds v i first n

  -- the notes stay; each error that is noted as queued more had a reason, and so has each advance that is noted more; and what is told more is caused, where memory is there behind it
  pub record Caused (s t : CallStand) : Type 0 where
    pub later : Later s.view t.view
    pub queued : (j first e : ℕ) → 0 < queued_in j first e t.view.notes → (0 < queued_in j first e s.view.notes) ⊎ QueuedHere t.view j first e
    pub advanced : (j first n : ℕ) → 0 < advanced_in j first n t.view.notes → (0 < advanced_in j first n s.view.notes) ⊎ AdvancedHere t.view j first n
    pub told : t.books.starved ≡ false → (s.books.starved ≡ false) × ((more : List Told) × (t.books.told ≡ s.books.told ++ more) × AllByRecursion (IsCausedHere t.view) more)

  -- ## In later views

  made_later : (v w : View Asked) → Later v w → (number : ℕ) (op : Op) (by : Maybe Outcome) (s t : Stand g) (a : Acted state p q number op by s t) → IsMadeBy state p q v number op by s t a → IsMadeBy state p q w number op by s t a
  made_later v w l number (ops.Call asked) None s t a h = let z = l.notes (id_slot a.0) (is_made_for (id_first a.0) asked.operation) in omega (arith, z, h)
  made_later v w l number (ops.Call asked) (Some by) s t a h = tt
  made_later v w l number _ by s t a h = tt

  backed_later : (v w : View Asked) → Later v w → (d : Deed g state p q) → IsBacked v d → IsBacked w d
  backed_later v w l (operates x by s t a) h = made_later v w l x.number x.op by s t a h
  backed_later v w l (retries r s t by) h = tt

  reason_later : (v w : View Asked) → Later v w → (id code : ℕ) (attempt : Maybe ℕ) → ReasonHere v id code attempt → ReasonHere w id code attempt
  reason_later v w l id code attempt (timed_out i x operation by s t h there is says counts keeps a b c) = timed_out i x operation by s t h there is says counts (let z = l.kept (is_word (call_index q operation) id) in omega (arith, z, keeps)) a b c
  reason_later v w l id code attempt (missed i d there is backed a b) = missed i d there is (backed_later v w l d backed) a b
  reason_later v w l id code attempt (dropped n d z) = dropped n d z

  queued_later : (v w : View Asked) → Later v w → (i first e : ℕ) → QueuedHere v i first e → QueuedHere w i first e
  queued_later v w l i first e h = record { id = h.id; code = h.code; attempt = h.attempt; slot_is = h.slot_is; first_is = h.first_is; error_is = h.error_is; reason = reason_later v w l h.id h.code h.attempt h.reason }

  origin_later : (v w : View Asked) → Later v w → (k : IdLock Asked) (code : ℕ) (attempt : Maybe ℕ) → Origin state p q xs Says ds v k code attempt → Origin state p q xs Says ds w k code attempt
  origin_later v w l k code attempt (posted_so r) = posted_so (reason_later v w l (id_in k) code attempt r)
  origin_later v w l k code attempt (handed_out word found locked first oldest some_) = handed_out word (let a = l.notes k.slot (is_saw word) in omega (arith, a, found)) locked first oldest some_

  cause_later : (v w : View Asked) → Later v w → (k : IdLock Asked) (code : ℕ) (attempt : Maybe ℕ) → CauseHere v k code attempt → CauseHere w k code attempt
  cause_later v w l k code attempt c = record {
    inside = c.inside;
    seen = (let s = c.seen in record { word = s.word; found = (let a = l.notes k.slot (is_saw s.word) in let b = s.found in omega (arith, a, b)); taken = s.taken; first_is = s.first_is; range_is = s.range_is });
    locked = (let a = l.notes k.slot (is_locked_for (parts k.word.0).first k.content.operation) in let b = c.locked in omega (arith, a, b));
    timely = c.timely;
    origin = origin_later v w l k code attempt c.origin;
  }

  caused_later : (v w : View Asked) → Later v w → (x : Told) → IsCausedHere v x → IsCausedHere w x
  caused_later v w l x c = record {
    lock = c.lock;
    code = c.code;
    attempt = c.attempt;
    is = c.is;
    ends = c.ends;
    cause = cause_later v w l c.lock c.code c.attempt c.cause;
    over = (let a = l.notes c.lock.slot (is_ended_at (parts c.lock.word.0).first (parts c.lock.word.0).attempt) in let b = c.over in omega (arith, a, b));
  }

  advanced_later : (v w : View Asked) → Later v w → (i first n : ℕ) → AdvancedHere v i first n → AdvancedHere w i first n
  advanced_later v w l i first n h = record { lock = h.lock; code = h.code; attempt = h.attempt; slot_is = h.slot_is; first_is = h.first_is; next = h.next; goes_on = h.goes_on; cause = cause_later v w l h.lock h.code h.attempt h.cause }

  pub in_turn : (s u t : CallStand) → Caused s u → Caused u t → Caused s t
  in_turn s u t a b = record {
    later = later_then s.view u.view t.view a.later b.later;
    queued = λ j first e h. elim (b.queued j first e h) [
      | inl x ↦ elim (a.queued j first e x) [ inl y ↦ inl y | inr y ↦ inr (queued_later u.view t.view b.later j first e y) ]
      | inr y ↦ inr y
    ];
    advanced = λ j first n h. elim (b.advanced j first n h) [
      | inl x ↦ elim (a.advanced j first n x) [ inl y ↦ inl y | inr y ↦ inr (advanced_later u.view t.view b.later j first n y) ]
      | inr y ↦ inr y
    ];
    told = λ fed. (let y = b.told fed in let x = a.told y.0 in (
      x.0,
      (
        x.1.0 ++ y.1.0,
        y.1.1 ∙ (ap (λ (l : List Told). l ++ y.1.0) x.1.1 ∙ append_assoc s.books.told x.1.0 y.1.0),
        all_both (IsCausedHere t.view) x.1.0 y.1.0 (all_then (IsCausedHere u.view) (IsCausedHere t.view) x.1.0 (caused_later u.view t.view b.later) x.1.2) y.1.2,
      ),
    ));
  }

  -- where nothing is queued, and nothing advances
  none_more : (s t : CallStand) → Stays s.view t.view → (j first e : ℕ) → 0 < queued_in j first e t.view.notes → (0 < queued_in j first e s.view.notes) ⊎ QueuedHere t.view j first e
  none_more s t g j first e h = inl (let a = g.queued j first e in omega (arith, a, h))

  none_further : (s t : CallStand) → Stays s.view t.view → (j first n : ℕ) → 0 < advanced_in j first n t.view.notes → (0 < advanced_in j first n s.view.notes) ⊎ AdvancedHere t.view j first n
  none_further s t g j first n h = inl (let a = g.advanced j first n in omega (arith, a, h))

  -- nothing more is told
  caused_books : (s t : CallStand) → Stays s.view t.view → t.books.told ≡ s.books.told → t.books.starved ≡ s.books.starved → Caused s t
  caused_books s t g e f = record { later = g.later; queued = none_more s t g; advanced = none_further s t g; told = λ fed. (sym f ∙ fed, ([], e ∙ sym (append-nil s.books.told), tt)) }

  caused_seen : (s t : CallStand) → Stays s.view t.view → t.books ≡ s.books → Caused s t
  caused_seen s t g e = caused_books s t g (ap (λ (y : Books). y.told) e) (ap (λ (y : Books). y.starved) e)

  pub caused_same : (s t : CallStand) → t ≡ s → Caused s t
  caused_same s t e = caused_seen s t (same_stays s.view t.view (ap (λ (y : CallStand). y.view) e)) (ap (λ (y : CallStand). y.books) e)

  -- an error was queued
  caused_queued : (s t : CallStand) (id code : ℕ) (attempt : Maybe ℕ) (ts : List (Token Asked)) → Did (id_slot id) s.view t.view ts (one (id_slot id) (Queued (id_first id) (error_in code attempt))) → t.books ≡ s.books → ReasonHere s.view id code attempt → Caused s t
  caused_queued s t id code attempt ts d same r = record {
    later = now;
    queued = λ j first e h. (
        let more : List (Noted Asked) = one (id_slot id) (Queued (id_first id) (error_in code attempt)) in
        let a = did_total (is_queued first e) (queued_silent first e) (id_slot id) s.view t.view ts more d j in
        dite (ℕ_discrete (queued_in j first e more) 0)
        (λ z. inl (omega (arith, a, z, h)))
        (λ ne. inr (let w = queued_one (id_slot id) j first e (id_first id) (error_in code attempt) (omega (arith, ne)) in
        record { id = id; code = code; attempt = attempt; slot_is = w.0; first_is = w.1; error_is = w.2; reason = reason_later s.view t.view now id code attempt r }))
        );
    advanced = λ j first n h. inl (
        let x : Note Asked = Queued (id_first id) (error_in code attempt) in
        let a = did_total (is_attempt first n) (attempt_silent first n) (id_slot id) s.view t.view ts (one (id_slot id) x) d j in
        let b = none_of_one (is_attempt first n) (attempt_silent first n) (id_slot id) x refl j in omega (arith, a, b, h)
        );
    told = λ fed. (sym (ap (λ (y : Books). y.starved) same) ∙ fed, ([], ap (λ (y : Books). y.told) same ∙ sym (append-nil s.books.told), tt));
  }
    where
      now : Later s.view t.view
      now = did_later (id_slot id) s.view t.view ts _ d

  -- ## Errors of calls

  lock_ends : (k : IdLock Asked) (code : ℕ) (attempt : Maybe ℕ) (s t : CallStand) → decision k code attempt ≡ decisions.End → CauseHere s.view k code attempt → EndedWith k code s t → Caused s t
  lock_ends k code attempt s t end c e = record { later = grown.later; queued = none_more s t grown; advanced = none_further s t grown; told = λ fed. by fed e.tells }
    where
      grown : Stays s.view t.view
      grown = ended_stays k.slot (parts k.word.0).first s.view t.view e.ended

      by : t.books.starved ≡ false → Tells (failed k code) s.books t.books → (s.books.starved ≡ false) × ((more : List Told) × (t.books.told ≡ s.books.told ++ more) × AllByRecursion (IsCausedHere t.view) more)
      by fed (told is) = (
        sym (ap (λ (b : Books). b.starved) is) ∙ fed,
        (failed k code ∷ [], ap (λ (b : Books). b.told) is, (record { lock = k; code = code; attempt = attempt; is = refl; ends = end; cause = cause_later s.view t.view grown.later k code attempt c; over = ended_over k.slot (parts k.word.0).first s.view t.view e.ended }, tt)),
      )
      by fed (lost is) = let z : true ≡ false = sym (ap (λ (b : Books). b.starved) is) ∙ fed in absurd (cc)

  -- for want of memory
  starved_ends : (k : IdLock Asked) (s t : CallStand) → EndedWith k EINTERNAL (record { view = s.view; books = starving s.books }) t → Caused s t
  starved_ends k s t e = record { later = grown.later; queued = none_more s t grown; advanced = none_further s t grown; told = λ fed. by fed e.tells }
    where
      grown : Stays s.view t.view
      grown = ended_stays k.slot (parts k.word.0).first s.view t.view e.ended

      by : t.books.starved ≡ false → Tells (failed k EINTERNAL) (starving s.books) t.books → (s.books.starved ≡ false) × ((more : List Told) × (t.books.told ≡ s.books.told ++ more) × AllByRecursion (IsCausedHere t.view) more)
      by fed (told is) = let z : true ≡ false = sym (ap (λ (b : Books). b.starved) is) ∙ fed in absurd (cc)
      by fed (lost is) = let z : true ≡ false = sym (ap (λ (b : Books). b.starved) is) ∙ fed in absurd (cc)

  -- the attempt of a lock advances
  steps : (k : IdLock Asked) (code : ℕ) (attempt : Maybe ℕ) (s t : CallStand) (r : Retry) → decision k code attempt ≡ decisions.Retry → CauseHere s.view k code attempt → Steps k s.view t.view → t.books ≡ keeping r s.books → Caused s t
  steps k code attempt s t r goes_on c g e = record {
    later = g.later;
    queued = λ j first d h. inl (let a = g.queued j first d in omega (arith, a, h));
    advanced = λ j first n h. elim (g.advanced j first n h) [
      | inl x ↦ inl x
      | inr x ↦ inr (record { lock = k; code = code; attempt = attempt; slot_is = x.0; first_is = x.1; next = x.2; goes_on = goes_on; cause = cause_later s.view t.view g.later k code attempt c })
    ];
    told = λ fed. (sym (ap (λ (y : Books). y.starved) e) ∙ fed, ([], ap (λ (y : Books). y.told) e ∙ sym (append-nil s.books.told), tt));
  }

  -- what is handed out instead of a lock
  next_cause : (u w : View Asked) (k l : IdLock Asked) (advance : Bool) (code : ℕ) (attempt : Maybe ℕ) → k.slot < q.slots → HasLockOf k u → UnlockOk u w k.slot (parts k.word.0) k.content advance (unlocked.Next l code attempt) → CauseHere w l code attempt
  next_cause u w k l advance code attempt inside has h =
      let r = h.4.1 in
      let found : Found l.slot h.4.0 w = subst (λ (i : ℕ). Found i h.4.0 w) (sym h.0) r.was_found in
      let first : (parts h.4.0).first ≡ (parts l.word.0).first = sym (ap (λ (y : Parts). y.first) r.left.1) in
      let same : (parts l.word.0).first ≡ (parts k.word.0).first = sym first ∙ r.same_id in
      record {
        inside = (let a = h.0 in omega (arith, a, inside));
        seen = record { word = h.4.0; found = found; taken = (let a = r.was_locked in omega (arith, a)); first_is = first; range_is = sym (ap (λ (y : Parts). y.range) r.left.1) };
        locked = (
            let now = (handed_later u w k l advance code attempt h).notes k.slot (is_locked_for (parts k.word.0).first k.content.operation) in
            let a : total (is_locked_for (parts l.word.0).first l.content.operation) (notes_of l.slot w.notes) ≡ total (is_locked_for (parts k.word.0).first k.content.operation) (notes_of k.slot w.notes)
            = λ i. total (is_locked_for (same i) (h.1 i).operation) (notes_of (h.0 i) w.notes) in omega (arith, now, a, has)
            );
        timely = h.4.3;
        origin = handed_out h.4.0 found r.was_locked first h.4.2 (λ z. (
            let open_ : (parts l.word.0).state ≡ 1 = ap (λ (y : Parts). y.state) r.left.1 ∙ ap (λ (n : ℕ). cond (eqb n 0) 1 2) z in
            let a = l.is_locked in omega (arith, a, open_)
            ));
      }

  pub decided : {s : CallStand} {k : IdLock Asked} {code : ℕ} {attempt : Maybe ℕ} {t : CallStand} → Decided s k code attempt t → CauseHere s.view k code attempt → Caused s t
  decided (handling.ends s k code attempt t a b e) c = lock_ends k code attempt s t b c e
  decided (handling.starves s k code attempt t a e) c = starved_ends k s t e
  decided (handling.waits s k code attempt t a b e) c = steps k code attempt s t e.retry b c (opened_steps s.view t.view k e.unlocked) e.kept
  decided (handling.goes_on s k code attempt t u l next of a b e rest) c =
      in_turn s u t (steps k code attempt s u e.retry b c (handed_steps s.view u.view k l next of e.unlocked) e.kept) (decided rest (next_cause s.view u.view k l true next of c.inside c.locked e.unlocked))

  seen_only : (s : CallStand) (v : View Asked) (t : CallStand) → Quiet s.view v → t ≡ record { view = v; books = s.books } → Caused s t
  seen_only s v t quiet e = let u : CallStand = record { view = v; books = s.books } in in_turn s u t (caused_seen s u (quiet_stays s.view v quiet) refl) (caused_same u t e)

  posted_as : (s : CallStand) (v : View Asked) (id code : ℕ) (attempt : Maybe ℕ) (t : CallStand) (answer : Posted Asked) → PostOk q.slots s.view v id code attempt answer → Handled code attempt answer (record { view = v; books = s.books }) t → (Counts answer → ReasonHere s.view id code attempt) → Caused s t
  posted_as s v id code attempt t (HasLock k) post d r =
      let u : CallStand = record { view = v; books = s.books } in
      let whole : id_slot id * 4294967296 + id_first id ≡ id = div-add-mod' id 4294967296 in let slot = post.0 in let first = post.2 in
      let same : id_in k ≡ id = omega (arith, whole, slot, first) in
      let got = got_stays k.slot s.view v post.4.0 (parts k.word.0) k.content post.4.1 in
      let reason = reason_later s.view v got.later (id_in k) code attempt (subst (λ (i : ℕ). ReasonHere s.view i code attempt) (sym same) (r tt)) in
      in_turn s u t (caused_seen s u got refl)
      (decided d (record {
        inside = post.1;
        seen = got_seen s.view v post.4.0 k post.4.1;
        locked = got_locked k.slot s.view v post.4.0 (parts k.word.0) k.content post.4.1;
        timely = post.3;
        origin = posted_so reason;
      }))
  posted_as s v id code attempt t IsQueued post e r = let u : CallStand = record { view = v; books = s.books } in in_turn s u t (caused_queued s u id code attempt _ post.0 refl (r tt)) (caused_same u t e)
  posted_as s v id code attempt t _ post e r = seen_only s v t post.0 e

  pub posted : (s : CallStand) (id code : ℕ) (attempt : Maybe ℕ) (t : CallStand) (b : PostedBy q.slots s id code attempt t) → (Counts b.0 → ReasonHere s.view id code attempt) → Caused s t
  posted s id code attempt t b why = posted_as s b.1.view id code attempt t b.0 b.1.post b.1.handled why

  seen_id : (number id : ℕ) (s : CallStand) → Caused s (found_id q number id s)
  seen_id number id s = let u = found_id q number id s in caused_seen s u (kept_stays s.view u.view (call_index q number) false id refl) refl

  timed_out_by : (i : ℕ) (x : Task) → get_elem? xs i ≡ some x → (number : ℕ) → x.op ≡ ops.Expire number → (by : Outcome) → Says x.number by → (s t : CallStand) → TimedOut q number by s t → Caused s t
  timed_out_by i x there number is by says s t h = let u = found_id q number h.id s in in_turn s u t (seen_id number h.id s) (posted u h.id ERPCTIMEDOUT None t (h.answer, h.posted) (λ counts. timed_out i x number by s t h there is says (timed_by h.answer by h.by_answer counts) (let a = pair-same (call_index q number) h.id in omega (arith, a)) refl refl refl))

  expired_by : (i : ℕ) (x : Task) → get_elem? xs i ≡ some x → (number : ℕ) → x.op ≡ ops.Expire number → (by : Outcome) → Says x.number by → (s t : CallStand) → ExpiredBy q number by s t → Caused s t
  expired_by i x there number is outcome.NotBegun says s t h = caused_same s t h.same
  expired_by i x there number is outcome.Expired says s t h = timed_out_by i x there number is outcome.Expired says s t h
  expired_by i x there number is outcome.Queued says s t h = timed_out_by i x there number is outcome.Queued says s t h
  expired_by i x there number is outcome.Late says s t h = timed_out_by i x there number is outcome.Late says s t h
  expired_by i x there number is (outcome.Crowded first second) says s t h = timed_out_by i x there number is (outcome.Crowded first second) says s t h
  expired_by i x there number is _ says s t h = elim h [ ]

  joined_by : (number : ℕ) (by : Outcome) (s t : CallStand) → JoinedBy q number by s t → Caused s t
  joined_by number outcome.NotBegun s t h = caused_same s t h.same
  joined_by number outcome.Joined s t h = let u = found_id q number h.id s in
      in_turn s u t (seen_id number h.id s) (caused_seen u t (then_stays u.view h.view t.view (quiet_stays u.view h.view h.quiet) (same_stays h.view t.view (ap (λ (y : CallStand). y.view) h.after))) (ap (λ (y : CallStand). y.books) h.after))
  joined_by number _ s t h = elim h [ ]

  -- ## Messages

  before_then : (v w : sock_view.View) → StillHas v w → IsBehind state p q ds w → IsBehind state p q ds v
  before_then v w h b = record { index = b.index; deed = b.deed; there = b.there; still = still_then v w (socks_behind b.deed) h b.still }

  -- one of the client's deeds leads on from here
  abbrev Behind : sock_view.View → Type 0
  Behind v = IsBehind state p q ds v

  dropped_one : (id : ℕ) (v : sock_view.View) (s : CallStand) (w : sock_view.View) (t : CallStand) → DroppedOne state p q.slots id v s w t → socket_id_slot id < p.slots → Behind w → Caused s t
  dropped_one id v s w t d inside behind = by d.told
    where
      by : ToldDrop q.slots d.msg d.code s t → Caused s t
      by (of_send e is) = caused_same s t is
      by (of_call ne b) =
          let it : WasDropped state p q ds d.msg.owner d.code d.msg.label.attempt = record { life = id; before = v; calls = s; after = w; calls_after = t; drop = d; behind = behind; inside = inside; call = ne; owner = refl; code_is = refl; attempt_is = refl } in
          posted s d.msg.owner d.code (Some d.msg.label.attempt) t b (λ counts. dropped d.msg.label.attempt it refl)

  dropped_all : (id : ℕ) (v : sock_view.View) (s : CallStand) (w : sock_view.View) (t : CallStand) → DroppedAll state p q.slots id v s w t → socket_id_slot id < p.slots → Behind w → Caused s t
  dropped_all id v s _ _ draining.none inside behind = caused_same s s refl
  dropped_all id v s _ _ (draining.one_more u r w t more one) inside behind = in_turn s r t (dropped_all id v s u r more inside (before_then u w (drop_still state p id one.msg u w one.wrote) behind)) (dropped_one id u r w t one inside behind)

  drained : (id : ℕ) (v : sock_view.View) (s : CallStand) (w : sock_view.View) (t : CallStand) → Drained state p q.slots id v s w t → socket_id_slot id < p.slots → Behind w → Caused s t
  drained id v s w t d inside behind = dropped_all id v s d.last t d.dropped inside (before_then d.last w (wrote_still state id d.last w d.wrote) behind)

  delivered : (sock : SockRef) (msg : Letter) (by : Maybe Outcome) (v : sock_view.View) (s : CallStand) (w : sock_view.View) (t : CallStand) → DeliveredCalling state p q.slots sock msg by v s w t → socket_id_slot sock.id.0 < p.slots → Behind w → Caused s t
  delivered sock msg None v s w t d inside behind = drained sock.id.0 d.taken s d.through.wrote t d.through.drained inside (before_then d.through.wrote w (still_as d.through.wrote w (returned_grew sock.id.0 d.through.wrote w d.through.returned)) behind)
  delivered sock msg (Some (outcome.Gone found)) v s w t d inside behind = caused_same s t d.1
  delivered sock msg (Some outcome.Full) v s w t d inside behind = caused_same s t d.1
  delivered sock msg (Some _) v s w t d inside behind = elim d [ ]

  sent_calling : (n : ℕ) (msg : Letter) (by : Maybe Outcome) (v : sock_view.View) (s : CallStand) (w : sock_view.View) (t : CallStand) → SentCalling state p q.slots n msg by v s w t → Behind w → Caused s t
  sent_calling n msg None v s w t h behind = delivered h.sock msg None h.has s w t h.delivered h.reached_it.1.0.inside behind
  sent_calling n msg (Some outcome.Unopened) v s w t h behind = caused_same s t h.1
  sent_calling n msg (Some (outcome.Gone found)) v s w t (inl h) behind = caused_same s t h.1
  sent_calling n msg (Some (outcome.Gone found)) v s w t (inr h) behind = delivered h.sock msg (Some (outcome.Gone found)) h.has s w t h.delivered h.reached_it.1.0.inside behind
  sent_calling n msg (Some outcome.Full) v s w t h behind = delivered h.sock msg (Some outcome.Full) h.has s w t h.delivered h.reached_it.1.0.inside behind
  sent_calling n msg (Some _) v s w t h behind = elim h [ ]

  -- ## Attempts

  -- where it came to nothing, with a code, and this is known, there is this reason
  abbrev WhyMissed : Maybe ℕ → ℕ → ℕ → (View Asked → Type 0) → Type 0
  WhyMissed code id n Known = (v : View Asked) (c : ℕ) → code ≡ Some c → Known v → ReasonHere v id c (Some n)

  module _ (Known : View Asked → Type 0) (still : (v w : View Asked) → Later v w → Known v → Known w) where
    delivered_by : (socket : SocketId) (msg : Letter) (s t : Both) (d : DeliveredBy state p q socket msg s t) → socket_id_slot socket.0 < p.slots → Behind t.socks → Known s.calls.view → WhyMissed (delivery_missed state p q socket msg s t d) msg.owner msg.label.attempt Known → Caused s.calls t.calls
    delivered_by socket msg s t (went_out w) inside behind known why = drained socket.0 w.taken s.calls w.through.wrote t.calls w.through.drained inside (before_then w.through.wrote t.socks (still_as w.through.wrote t.socks (returned_grew socket.0 w.through.wrote t.socks w.through.returned)) behind)
    delivered_by socket msg s t (came_back by c) inside behind known why = posted s.calls msg.owner (code_for by) (Some msg.label.attempt) t.calls c.posted (λ counts. why s.calls.view (code_for by) refl known)

    attempted_by : (socket : SocketId) (msg : Letter) (s t : Both) (a : AttemptedBy state p q socket msg s t) → socket_id_slot socket.0 < p.slots → Behind t.socks → Known s.calls.view → WhyMissed (attempt_missed state p q socket msg s t a) msg.owner msg.label.attempt Known → Caused s.calls t.calls
    attempted_by socket msg s t (nowhere g) inside behind known why = posted s.calls msg.owner EFAILEDSOCKET (Some msg.label.attempt) t.calls g.posted (λ counts. why s.calls.view EFAILEDSOCKET refl known)
    attempted_by socket msg s t (over_link u l d) inside behind known why =
        let stays = kept_stays s.calls.view u.calls.view _ _ _ l.stored in
        in_turn s.calls u.calls t.calls (caused_seen s.calls u.calls stays l.books) (delivered_by socket msg u t d inside behind (still s.calls.view u.calls.view stays.later known) why)

    went_to : (name : ℕ) (msg : Letter) (s t : Both) (w : WentTo state p q name msg s t) → Behind t.socks → Known s.calls.view → WhyMissed (went_missed state p q name msg s t w) msg.owner msg.label.attempt Known → Caused s.calls t.calls
    went_to name msg s t (stray a e h) behind known why = posted s.calls msg.owner EFAILEDSOCKET (Some msg.label.attempt) t.calls h (λ counts. why s.calls.view EFAILEDSOCKET refl known)
    went_to name msg s t (unopened f h) behind known why = posted s.calls msg.owner EFAILEDSOCKET (Some msg.label.attempt) t.calls h (λ counts. why s.calls.view EFAILEDSOCKET refl known)
    went_to name msg s t (to_socket socket u f e a) behind known why = let same = caused_same s.calls u.calls e in in_turn s.calls u.calls t.calls same (attempted_by socket msg u t a f.0.inside behind (still s.calls.view u.calls.view same.later known) why)

  -- the id was made for the operation
  abbrev IsMade : ℕ → ℕ → View Asked → Type 0
  IsMade operation id v = 0 < total (is_made_for (id_first id) operation) (notes_of (id_slot id) v.notes)

  made_still : (operation id : ℕ) (v w : View Asked) → Later v w → IsMade operation id v → IsMade operation id w
  made_still operation id v w l h = let a = l.notes (id_slot id) (is_made_for (id_first id) operation) in omega (arith, a, h)

  begun_by : (asked : Asked) (id : ℕ) (s t : Both) (h : CalledBy state p q asked (called.Begun id) s t) → Behind t.socks → WhyMissed (attempt_missed state p q h.socket _ h.at t h.attempted) id 0 (IsMade asked.operation id) → Caused s.calls t.calls
  begun_by asked id s t h behind why =
      let m = h.made_for in let u : CallStand = record { view = m.view; books = s.calls.books } in let n : Note Asked = Made (id_first id) asked.range asked in
      let f : Note Asked → ℕ = is_made_for (id_first id) asked.operation in
      let made = did_stays (id_slot id) s.calls.view m.view _ (one (id_slot id) n) (one_silent (id_slot id) n (λ x y. refl) (λ x y. refl)) m.made.did in
      let noted = kept_stays m.view h.at.calls.view _ _ _ m.noted in
      let known : IsMade asked.operation id h.at.calls.view = (
      let a = did_total f (made_silent (id_first id) asked.operation) (id_slot id) s.calls.view m.view _ (one (id_slot id) n) m.made.did (id_slot id) in
      let b = counted_here f (id_slot id) n in let c = pair-same (id_first id) asked.operation in let d = noted.later.notes (id_slot id) f in omega (arith, a, b, c, d)
      ) in
      in_turn s.calls h.at.calls t.calls (in_turn s.calls u h.at.calls (caused_seen s.calls u made refl) (caused_seen u h.at.calls noted m.books)) (attempted_by (IsMade asked.operation id) (made_still asked.operation id) h.socket _ h.at t h.attempted h.made_for.found.0.inside behind known why)

  -- of a retry nothing is known besides
  abbrev Nothing : View Asked → Type 0
  Nothing v = Unit {0}

  locked : (r : Retry) (k : IdLock Asked) (s t : Both) → Locked state p q r k s t → Caused s.calls t.calls
  locked r k s t l = caused_seen s.calls t.calls (got_stays k.slot s.calls.view t.calls.view l.got.word (parts k.word.0) k.content l.got.got) l.books

  retried_by : (r : Retry) (s t : Both) (by : RetriedBy state p q r s t) → Behind t.socks → WhyMissed (retry_missed state p q r s t by) r.id r.attempt Nothing → Caused s.calls t.calls
  retried_by r s t (had_ended h) behind why = caused_seen s.calls t.calls (quiet_stays s.calls.view t.calls.view h.gone.quiet) h.books
  retried_by r s t (overtaken k u l o) behind why =
      let x : CallStand = record { view = o.view; books = u.calls.books } in
      let has = got_locked k.slot s.calls.view u.calls.view l.got.word (parts k.word.0) k.content l.got.got in
      in_turn s.calls u.calls t.calls (locked r k s u l) (in_turn u.calls x t.calls (caused_seen u.calls x (handed_stays u.calls.view o.view k o.next o.code o.attempt o.unlocked) refl) (decided o.decided (next_cause u.calls.view o.view k o.next false o.code o.attempt l.got.inside has o.unlocked)))
  retried_by r s t (went_again k u l w) behind why =
      let x : CallStand = record { view = w.view; books = u.calls.books } in
      in_turn s.calls u.calls t.calls (locked r k s u l) (in_turn u.calls x t.calls (caused_seen u.calls x (opened_stays u.calls.view w.view k w.unlocked) refl) (went_to Nothing (λ v y l h. tt) _ _ (record { socks = u.socks; calls = x }) t w.went behind tt why))

  -- ## Deeds

  -- it is one of the client's
  abbrev IsAmong : Deed g state p q → Type 0
  IsAmong d = (i : ℕ) × (get_elem? ds i ≡ some d)

  behind_deed : (i : ℕ) (d : Deed g state p q) → get_elem? ds i ≡ some d → Behind (socks_behind d)
  behind_deed i d at = record { index = i; deed = d; there = at; still = still_as (socks_behind d) (socks_behind d) (stays (socks_behind d)) }

  abbrev AreAmong : List (Deed g state p q) → Type 0
  AreAmong list = (d : Deed g state p q) (j : ℕ) → get_elem? list j ≡ some d → IsAmong d

  first_among : (a b : List (Deed g state p q)) → AreAmong (a ++ b) → AreAmong a
  first_among a b all d j at = all d j (append_first a b j d at)

  later_among : (a b : List (Deed g state p q)) → AreAmong (a ++ b) → AreAmong b
  later_among a b all d j at = all d (length a + j) (append_later a b j d at)

  retried : (s t : Both) (h : Retried state p q s t) → AreAmong (retries_of {g = g} state p q s t h) → Caused s.calls t.calls
  retried s _ none_yet among = caused_same s.calls s.calls refl
  retried s _ (one_more u t r rest more e f by) among =
      let x = without_oldest rest u in let d : Deed g state p q = retries r x t by in
      let last = later_among (retries_of state p q s u more) (d ∷ []) among d 0 refl in
      in_turn s.calls u.calls t.calls (retried s u more (first_among (retries_of state p q s u more) (d ∷ []) among))
      (in_turn u.calls x.calls t.calls (caused_books u.calls x.calls (same_stays u.calls.view x.calls.view refl) refl refl) (retried_by r x t by (behind_deed last.0 d last.1) (λ v c is known. missed last.0 d last.1 is tt refl refl)))

  -- what stands in a list is said
  abbrev AreSays : List Told → Type 0
  AreSays list = (j : ℕ) (y : Told) → get_elem? list j ≡ some y → Says y.number y.outcome

  said_now : (number : ℕ) (by : Maybe Outcome) (old new : List Told) → new ≡ old ++ telling number by → AreSays new → (b : Outcome) → by ≡ Some b → Says number b
  said_now number by old new e says b is =
      let one_told : Told = record { number = number; outcome = b } in
      says (length old + 0) one_told (ap (λ (l : List Told). get_elem? l (length old + 0)) (e ∙ ap (λ (o : Maybe Outcome). old ++ telling number o) is) ∙ append_later old (one_told ∷ []) 0 one_told refl)

  -- ## A client's run

  acted_caused : (i : ℕ) (x : Task) → get_elem? xs i ≡ some x → (op : Op) → x.op ≡ op → (by : Maybe Outcome) → ((b : Outcome) → by ≡ Some b → Says x.number b) → (s t : Stand g) (h : Acted state p q x.number op by s t) → Behind t.me.0
      → WhyMissed (acted_missed state p q x.number op by s t h) (acted_id state p q x.number op by s t h) 0 (λ v. IsMadeBy state p q v x.number op by s t h) → Caused s.calls t.calls
  acted_caused i x there (ops.Open n k) is (Some by) says s t h behind why = caused_same s.calls t.calls h.2
  acted_caused i x there (ops.Send n bytes) is by says s t h behind why = sent_calling n (letter_of x.number bytes) by s.me.0 s.calls t.me.0 t.calls h.0 behind
  acted_caused i x there (ops.Call asked) is (Some outcome.Unopened) says s t h behind why = caused_same s.calls t.calls h.0.1
  acted_caused i x there (ops.Call asked) is None says s t h behind why = begun_by asked h.0 (both_of s) (both_of t) h.1 behind why
  acted_caused i x there (ops.Expire of) is (Some by) says s t h behind why = expired_by i x there of is by (says by refl) s.calls t.calls h.0
  acted_caused i x there (ops.Join of) is (Some by) says s t h behind why = joined_by of by s.calls t.calls h.0
  acted_caused i x there (ops.Hold n) is (Some by) says s t h behind why = caused_same s.calls t.calls h.2
  acted_caused i x there (ops.Drop n) is (Some by) says s t h behind why = caused_same s.calls t.calls h.2
  acted_caused i x there (ops.Fail n code) is (Some by) says s t h behind why = caused_same s.calls t.calls h.2
  acted_caused i x there _ is _ says s t h behind why = elim h [ ]

  pub ran_caused : (n : ℕ) (s t : Course g) (h : Ran state p q xs n s t) → AreSays t.told → AreAmong (ran_deeds state p q xs n s t h) → Caused s.has.calls t.has.calls
  ran_caused zero s t e says among = caused_same s.has.calls t.has.calls (ap (λ (c : Course g). c.has.calls) e)
  ran_caused (suc n) s t h says among =
      let m = h.4 in
      let before : AreSays h.0.told = λ j y at. says j y (ap (λ (l : List Told). get_elem? l j) m.told ∙ append_first h.0.told (telling h.1.number m.by) j y at) in
      let earlier : List (Deed g state p q) = ran_deeds state p q xs n s h.0 h.2 in
      let again : List (Deed g state p q) = retries_of state p q (both_of h.0.has) (both_of m.ready) m.retried.all.retried in
      let d : Deed g state p q = operates h.1 m.by m.ready t.has m.acted in
      let now = later_among earlier (again ++ d ∷ []) among in let last = later_among again (d ∷ []) now d 0 refl in
      in_turn s.has.calls h.0.has.calls t.has.calls (ran_caused n s h.0 h.2 before (first_among earlier (again ++ d ∷ []) among))
      (in_turn h.0.has.calls m.ready.calls t.has.calls (retried (both_of h.0.has) (both_of m.ready) m.retried.all.retried (first_among again (d ∷ []) now))
      (acted_caused n h.1 h.3 h.1.op refl m.by (said_now h.1.number m.by h.0.told t.told m.told says) m.ready t.has m.acted (behind_deed last.0 d last.1) (λ v c is known. missed last.0 d last.1 is known refl refl)))

  -- all deeds of a client that made all its operations
  abbrev pub AreDeeds : (c d : Caller O g) → RunBy state p q false xs c d → Type 0
  AreDeeds c d r = AreAmong (ran_deeds state p q xs r.made (begins c) (record { has = stand r.came; told = r.came.outcomes.items; names = r.ran.names }) r.ran.ran ++ retries_of {g = g} state p q (both_of (stand r.came)) (both_of r.last) r.ends.1.all.retried)

  -- from its first operation on
  run_all : (c d : Caller O g) (r : RunBy state p q false xs c d) → AreDeeds c d r → AreSays d.outcomes.items → Caused (stand_of c.calls) (stand_of d.calls)
  run_all c d r among says =
      let all : drop r.made xs ≡ [] = let n = r.ends.0 in drop_all r.made xs (omega arith) in
      let came : AreSays r.came.outcomes.items = λ j y at. says j y (ap (λ o. get_elem? o.items j) r.told ∙ at) in
      let last : Course g = record { has = stand r.came; told = r.came.outcomes.items; names = r.ran.names } in
      let ran : List (Deed g state p q) = ran_deeds state p q xs r.made (begins c) last r.ran.ran in
      let rest : List (Deed g state p q) = retries_of state p q (both_of (stand r.came)) (both_of r.last) r.ends.1.all.retried in
      let a = ran_caused r.made (begins c) last r.ran.ran came (first_among ran rest among) in
      let b = retried (both_of (stand r.came)) (both_of r.last) r.ends.1.all.retried (later_among ran rest among) in
      let e = caused_same r.last.calls (stand_of d.calls) (r.calls ∙ ap (λ (s : Stand g). s.calls) (none_left state p q r.last r.end (drop r.made xs) all r.left)) in
      in_turn (stand_of c.calls) (stand_of r.came.calls) (stand_of d.calls) a (in_turn (stand_of r.came.calls) r.last.calls (stand_of d.calls) b e)

  -- each end of a call that it told, and it had told none before, goes back to an error that was posted
  pub run_caused : (c d : Caller O g) (r : RunBy state p q false xs c d) → AreDeeds c d r → c.calls.told.items ≡ [] → AreSays d.outcomes.items → d.calls.starved ≡ false → AllByRecursion (IsCausedHere d.calls.seat.me.0) d.calls.told.items
  run_caused c d r among none_told says fed =
      let w = (run_all c d r among says).told fed in
      subst (AllByRecursion (IsCausedHere d.calls.seat.me.0)) (sym (w.1.1 ∙ ap (λ (l : List Told). l ++ w.1.0) none_told)) w.1.2

  -- and each error that it noted as queued is one that it had a reason to post, where it had noted nothing before
  pub run_queued : (c d : Caller O g) (r : RunBy state p q false xs c d) → AreDeeds c d r → c.calls.seat.me.0.notes ≡ [] → AreSays d.outcomes.items → (i first e : ℕ) → 0 < queued_in i first e d.calls.seat.me.0.notes → QueuedHere d.calls.seat.me.0 i first e
  run_queued c d r among nothing says i first e h = elim ((run_all c d r among says).queued i first e h) [
    | inl before ↦ absurd (let a = ap (queued_in i first e) nothing in omega (arith, a, before))
    | inr why ↦ why
  ]

  -- and each advance that it noted had a cause
  pub run_advanced : (c d : Caller O g) (r : RunBy state p q false xs c d) → AreDeeds c d r → c.calls.seat.me.0.notes ≡ [] → AreSays d.outcomes.items → (i first n : ℕ) → 0 < advanced_in i first n d.calls.seat.me.0.notes → AdvancedHere d.calls.seat.me.0 i first n
  run_advanced c d r among nothing says i first n h = elim ((run_all c d r among says).advanced i first n h) [
    | inl before ↦ absurd (let a = ap (advanced_in i first n) nothing in omega (arith, a, before))
    | inr why ↦ why
  ]
