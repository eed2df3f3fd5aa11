-- What a seat does to its notes and to the retries that wait, where it makes no id and takes out no retry: for each retry that is kept more, the attempt was noted as an advance.
use Rattle.std.proofs.Common.{◌≡◌, ℕ, ◌+◌, ◌*◌, ◌<◌, ◌≤◌, Bool, true, false, cond, eqb, eq-eqb, ne_eqb, List, [], ◌∷◌, refl, sym, ap, ◌∙◌, arith}
use Rattle.std.specs.Prelude.{Option as Maybe}
use mathlib.Core.Logic.{dite}
use native.Mathlib.Decide.{ℕ_discrete}
use Rattle.sock_io.specs.LinkHalves.{OutState}
use Rattle.sock_words.specs.ErrorCodes.{EINTERNAL}
use Rattle.sock_words.specs.declared.plain.Plan.{Plan}
use Rattle.sock_words.specs.declared.socket_id.SocketId.{SocketId}
use Rattle.call_run.specs.sock_rule.specs.declared.homes.Letter.{Letter}
use Rattle.corr_core.specs.IdSlotWord.{Parts, parts}
use Rattle.corr_core.specs.IdSlotLaw.{only, pair, is_attempt}
use Rattle.corr_core.specs.declared.marks.Note.{Note}
use Rattle.corr_core.specs.declared.marks.Note.TheVariants.{Made, Ended, Locker, Queued, Attempt}
use Rattle.corr_core.specs.declared.marks.Noted.{Noted}
use Rattle.corr_core.specs.declared.marks.Plan as id_plan
use Rattle.corr_core.specs.declared.marks.Token.{Token}
use Rattle.corr_core.specs.declared.marks.View.{View}
use Rattle.corr_core.proofs.NoteSums.{only-else, pair-at, pair-else, pair-else_first}
use Rattle.id_rule.specs.LawfulIdTable.{notes_of, with_kept}
use Rattle.sock_message.specs.Asked.{Asked}
use Rattle.corr_id.specs.declared.calls.IdLock.{IdLock}
use Rattle.corr_id.specs.declared.posts.Posted.{Posted}
use Rattle.corr_id.specs.declared.posts.Posted.TheVariants.{Locked as HasLock, Queued as IsQueued}
use Rattle.corr_id.specs.declared.unlocks.Unlocked.{Unlocked}
use Rattle.corr_id.specs.declared.unlocks.Unlocked.TheVariants.{Open, Next}
use Rattle.corr_id.specs.SeatBehindIdCalls.{Did, Quiet, GotLock, one, is_event, advance_note, error_in}
use Rattle.corr_id.specs.PostAnswers.{PostOk}
use Rattle.corr_id.specs.Unlocks.{UnlockOk}
use Rattle.corr_id.proofs.IdSeatSplits.{total_append}
use Rattle.corr_id.proofs.TokensOfIdCalls.{became_grows}
use Rattle.call_run.specs.call_client.specs.call_errors.specs.declared.retries.Retry.{Retry}
use Rattle.call_run.specs.call_client.specs.call_errors.specs.ClientBooks.{Books, CallStand, starving, keeping, Tells, told, lost}
use Rattle.call_run.specs.call_client.specs.call_errors.specs.LockingByVersion.{GotBy}
use Rattle.call_run.specs.call_client.specs.call_errors.specs.CallEndsWithCode.{EndedWith, failed}
use Rattle.call_run.specs.call_client.specs.call_errors.specs.Handling.{Advanced, IsNext, Decided, ends, starves, waits, goes_on}
use Rattle.call_run.specs.call_client.specs.call_errors.specs.PostedErrors.{Handled, PostedBy}
use Rattle.call_run.specs.call_client.specs.call_attempts.specs.ClientAtBothTables.{Both}
use Rattle.call_run.specs.call_client.specs.call_attempts.specs.Attempting.{AttemptedBy}
use Rattle.call_run.specs.call_client.specs.call_attempts.specs.WaitingRetries.{RetriedBy, had_ended, overtaken, went_again}
use Rattle.call_run.specs.call_client.proofs.EndedCallsTelling.{did_total}
use Rattle.call_places.specs.ClientNotesCounted.{makes_for, makes}
use Rattle.call_places.proofs.CallStandFollows.{Follows, attempted_by, went_to}
use Rattle.call_places.proofs.NoteWeights.{quiet_all, did_all, became_all}
use Rattle.sock_words.specs.PackedWords.{id_slot, id_first}
use Rattle.sock_words.specs.Totals.{total}

-- ## Counts

-- the retry is that of this attempt of the call with this id
abbrev pub is_retry : ℕ → ℕ → Retry → ℕ
is_retry id n r = pair id n r.id r.attempt

-- or one of a first attempt, which none is
abbrev pub is_first : Retry → ℕ
is_first r = only 0 r.attempt

abbrev pub waiting : ℕ → ℕ → Books → ℕ
waiting id n b = total (is_retry id n) b.retries

-- how often this advance of the id with this slot and first version was noted
abbrev pub advances : ℕ → ℕ → ℕ → View Asked → ℕ
advances i f n v = total (is_attempt f n) (notes_of i v.notes)

-- of each attempt no more retries wait more than advances to it are noted more; no id was made, and all notes stayed
pub record Still (s t : CallStand) : Type 0 where
  pub grows : (i : ℕ) (f : Note Asked → ℕ) → total f (notes_of i s.view.notes) ≤ total f (notes_of i t.view.notes)
  pub made : (o : ℕ) → total (makes o) t.view.notes ≡ total (makes o) s.view.notes
  pub backed : (i f n : ℕ) → f < 4294967296 → waiting (i * 4294967296 + f) n t.books + advances i f n s.view ≤ waiting (i * 4294967296 + f) n s.books + advances i f n t.view
  pub first : total is_first t.books.retries ≤ total is_first s.books.retries

pub still_then : (s u t : CallStand) → Still s u → Still u t → Still s t
still_then s u t a b = record {
  grows = λ i f. (let x = a.grows i f in let y = b.grows i f in omega arith);
  made = λ o. b.made o ∙ a.made o;
  backed = λ i f n low. (let x = a.backed i f n low in let y = b.backed i f n low in omega arith);
  first = (let x = a.first in let y = b.first in omega arith);
}

-- where as many retries wait
by_view : (s t : CallStand) → t.books.retries ≡ s.books.retries → ((i : ℕ) (f : Note Asked → ℕ) → total f (notes_of i s.view.notes) ≤ total f (notes_of i t.view.notes)) → ((o : ℕ) → total (makes o) t.view.notes ≡ total (makes o) s.view.notes) → Still s t
by_view s t e grows made = record {
  grows = grows;
  made = made;
  backed = λ i f n low. (let x = ap (total (is_retry (i * 4294967296 + f) n)) e in let y = grows i (is_attempt f n) in omega arith);
  first = (let x = ap (total is_first) e in omega arith);
}

noted_same : (s t : CallStand) → t.books.retries ≡ s.books.retries → t.view.notes ≡ s.view.notes → Still s t
noted_same s t e n = by_view s t e (λ i f. (let x = ap (λ (l : List (Noted Asked)). total f (notes_of i l)) n in omega arith)) (λ o. ap (total (makes o)) n)

pub still_same : (s t : CallStand) → t ≡ s → Still s t
still_same s t e = noted_same s t (ap (λ (y : CallStand). y.books.retries) e) (ap (λ (y : CallStand). y.view.notes) e)

-- ## Notes

pub makes_silent : (o : ℕ) (n : Noted Asked) → is_event n.note ≡ false → makes o n ≡ 0
makes_silent o n e = by n.note e
  where
    by : (x : Note Asked) → is_event x ≡ false → makes_for o x ≡ 0
    by (Made f r c) e = let k : true ≡ false = e in cc
    by _ e = refl

pub attempt_silent : (f n : ℕ) (x : Note Asked) → is_event x ≡ false → is_attempt f n x ≡ 0
attempt_silent f n (Attempt g m) e = let k : true ≡ false = e in cc
attempt_silent f n _ e = refl

-- no id is made by these notes
abbrev pub NoneMade : List (Noted Asked) → Type 0
NoneMade es = (o : ℕ) → total (makes o) es ≡ 0

quiet_still : (s t : CallStand) → t.books.retries ≡ s.books.retries → Quiet s.view t.view → Still s t
quiet_still s t e q = by_view s t e q.grows (λ o. quiet_all (makes o) (makes_silent o) s.view t.view q)

did_still : (s t : CallStand) → t.books.retries ≡ s.books.retries → (i : ℕ) (ts : List (Token Asked)) (es : List (Noted Asked)) → Did i s.view t.view ts es → NoneMade es → Still s t
did_still s t e i ts es d none_ = by_view s t e d.grows (λ o. (let a = did_all (makes o) (makes_silent o) i s.view t.view ts es d in let z = none_ o in omega arith))

got_still : (s t : CallStand) → t.books.retries ≡ s.books.retries → (i word : ℕ) (k : Parts) (c : Asked) → GotLock i s.view t.view word k c → Still s t
got_still s t e i word k c g = did_still s t e i _ (one i (Locker k.first c)) g.did (λ o. refl)

none_advances : (i : ℕ) (p q : Parts) → NoneMade (advance_note i p q)
none_advances i p q o = by (eqb p.attempt q.attempt)
  where
    by : (b : Bool) → total (makes o) (cond b [] (one i (Attempt p.first q.attempt))) ≡ 0
    by true = refl
    by false = refl

-- ## What becomes of errors

pub tells_retries : (x : Rattle.call_run.specs.call_client.specs.rpc_client.specs.declared.acting.Told.Told) (b c : Books) → Tells x b c → c.retries ≡ b.retries
tells_retries x b c (told e) = ap (λ (y : Books). y.retries) e
tells_retries x b c (lost e) = ap (λ (y : Books). y.retries) e

ended_still : (k : IdLock Asked) (code : ℕ) (s t : CallStand) → EndedWith k code s t → Still s t
ended_still k code s t h =
    let one_end : List (Noted Asked) = one k.slot (Ended (parts k.word.0).first (parts k.word.0).attempt) in
    by_view s t (tells_retries (failed k code) s.books t.books h.tells) (became_grows k.slot s.view t.view [] one_end h.ended)
    (λ o. let a : total (makes o) t.view.notes ≡ 0 + total (makes o) s.view.notes = became_all (makes o) k.slot s.view t.view [] one_end h.ended in omega arith)

-- an id is known by its slot and its first version
id_differs : (i f j g : ℕ) → f < 4294967296 → g < 4294967296 → j * 4294967296 + g ≡ i * 4294967296 + f → (j ≡ i) × (g ≡ f)
id_differs i f j g fl gl e = (omega arith, omega arith)

-- an advance that was made is noted
pub advance_there : (i : ℕ) (p q : Parts) → q.attempt ≡ p.attempt + 1 → advance_note {C = Asked} i p q ≡ one i (Attempt p.first q.attempt)
advance_there i p q up = ap (λ (b : Bool). cond b [] (one i (Attempt p.first q.attempt))) (ne_eqb p.attempt q.attempt (λ e. omega (arith, e, up)))

-- one retry more waits, and the advance to its attempt was noted
module _ (k : IdLock Asked) (s t : CallStand) (r : Retry) (next : IsNext k r) (kept : t.books ≡ keeping r s.books) (q : Parts) (ts : List (Token Asked)) (up : q.attempt ≡ (parts k.word.0).attempt + 1)
    (d : Did k.slot s.view t.view ts (advance_note k.slot (parts k.word.0) q)) where
  pub more_waits : (id n : ℕ) → waiting id n t.books ≡ waiting id n s.books + is_retry id n r
  more_waits id n = let a = ap (λ (b : Books). waiting id n b) kept in let b = total_append (is_retry id n) s.books.retries (r ∷ []) in omega arith

  pub more_noted : (i f n : ℕ) → advances i f n t.view ≡ cond (eqb k.slot i) (is_attempt {C = Asked} f n (Attempt (parts k.word.0).first q.attempt)) 0 + advances i f n s.view
  more_noted i f n =
      let a = did_total (is_attempt f n) (attempt_silent f n) k.slot s.view t.view ts (advance_note k.slot (parts k.word.0) q) d i in
      let b = ap (λ (l : List (Noted Asked)). total (is_attempt f n) (notes_of i l)) (advance_there k.slot (parts k.word.0) q up) in
      let c : total (is_attempt f n) (notes_of i (one k.slot (Attempt (parts k.word.0).first q.attempt))) ≡ cond (eqb k.slot i) (is_attempt {C = Asked} f n (Attempt (parts k.word.0).first q.attempt)) 0 = by (eqb k.slot i) in
      omega arith
    where
      by : (b : Bool) → total (is_attempt {C = Asked} f n) (cond b (Attempt (parts k.word.0).first q.attempt ∷ []) []) ≡ cond b (is_attempt {C = Asked} f n (Attempt (parts k.word.0).first q.attempt)) 0
      by true = omega arith
      by false = refl

  -- the retry is counted where the advance is
  same_counts : (i f n : ℕ) → f < 4294967296 → is_retry (i * 4294967296 + f) n r ≤ cond (eqb k.slot i) (is_attempt {C = Asked} f n (Attempt (parts k.word.0).first q.attempt)) 0
  same_counts i f n low =
      let first = (parts k.word.0).first in
      let fl : first < 4294967296 = (let l = k.fits.low in omega arith) in
      dite (ℕ_discrete r.id (i * 4294967296 + f))
      (λ e. dite (ℕ_discrete r.attempt n)
      (λ a.
      let same = id_differs i f k.slot first low fl (sym next.id_is ∙ e) in
      let x = pair-at (i * 4294967296 + f) n r.id r.attempt e a in
      let y = pair-at f n first q.attempt same.1 (up ∙ (sym next.attempt_is ∙ a)) in
      let z = ap (λ (b : Bool). cond b (pair f n first q.attempt) 0) (eq-eqb k.slot i same.0) in omega arith)
      (λ n_. let x = pair-else (i * 4294967296 + f) n r.id r.attempt n_ in omega arith))
      (λ n_. let x = pair-else_first (i * 4294967296 + f) n r.id r.attempt n_ in omega arith)

  not_first : is_first r ≡ 0
  not_first = only-else 0 r.attempt (λ e. (let a = next.attempt_is in omega arith))

  pub keeps_still : Still s t
  keeps_still = record {
    grows = d.grows;
    made = λ o. (let a = did_all (makes o) (makes_silent o) k.slot s.view t.view ts (advance_note k.slot (parts k.word.0) q) d in let z = none_advances k.slot (parts k.word.0) q o in omega arith);
    backed = λ i f n low. (let a = more_waits (i * 4294967296 + f) n in let b = more_noted i f n in let c = same_counts i f n low in omega arith);
    first = (let a = ap (λ (b : Books). total is_first b.retries) kept in let b = total_append is_first s.books.retries (r ∷ []) in let z = not_first in omega arith);
  }

advanced_still : (k : IdLock Asked) (answer : Unlocked Asked) (s t : CallStand) → Advanced k answer s t → Still s t
advanced_still k Open s t a = let u = a.unlocked in keeps_still k s t a.retry a.is_next a.kept u.1 [] u.2.attempt_is u.4
advanced_still k (Next l code attempt) s t a = let u = a.unlocked in keeps_still k s t a.retry a.is_next a.kept (parts l.word.0) _ u.4.1.attempt_is u.3

-- what waits is the same where memory is wanting
wants_still : (s : CallStand) → Still s (record { view = s.view; books = starving s.books })
wants_still s = noted_same s (record { view = s.view; books = starving s.books }) refl refl

pub decided_still : {s : CallStand} {k : IdLock Asked} {code : ℕ} {attempt : Maybe ℕ} {t : CallStand} → Decided s k code attempt t → Still s t
decided_still (ends s k code attempt t a b e) = ended_still k code s t e
decided_still (starves s k code attempt t a e) = still_then s (record { view = s.view; books = starving s.books }) t (wants_still s) (ended_still k EINTERNAL (record { view = s.view; books = starving s.books }) t e)
decided_still (waits s k code attempt t a b e) = advanced_still k Open s t e
decided_still (goes_on s k code attempt t u l next of a b e rest) = still_then s u t (advanced_still k (Next l next of) s u e) (decided_still rest)

post_still : (slots : ℕ) (s t : CallStand) → t.books ≡ s.books → (id code : ℕ) (attempt : Maybe ℕ) (answer : Posted Asked) → PostOk slots s.view t.view id code attempt answer → Still s t
post_still slots s t e id code attempt (HasLock k) p = got_still s t (ap (λ (b : Books). b.retries) e) k.slot p.4.0 (parts k.word.0) k.content p.4.1
post_still slots s t e id code attempt IsQueued p = did_still s t (ap (λ (b : Books). b.retries) e) (id_slot id) _ (one (id_slot id) (Queued (id_first id) (error_in code attempt))) p.0 (λ o. refl)
post_still slots s t e id code attempt _ p = quiet_still s t (ap (λ (b : Books). b.retries) e) p.0

handled_still : (code : ℕ) (attempt : Maybe ℕ) (answer : Posted Asked) (s t : CallStand) → Handled code attempt answer s t → Still s t
handled_still code attempt (HasLock k) s t h = decided_still h
handled_still code attempt _ s t h = still_same s t h

posted_still : (slots : ℕ) (s t : CallStand) (id code : ℕ) (attempt : Maybe ℕ) → PostedBy slots s id code attempt t → Still s t
posted_still slots s t id code attempt p = let x = p.1 in let u : CallStand = record { view = x.view; books = s.books } in
    still_then s u t (post_still slots s u refl id code attempt p.0 x.post) (handled_still code attempt p.0 u t x.handled)

-- a word of an operation was noted
kept_still : (own : Bool) (s t : CallStand) (place word : ℕ) → t.view ≡ with_kept place own word s.view → t.books ≡ s.books → Still s t
kept_still own s t place word e b = noted_same s t (ap (λ (y : Books). y.retries) b) (ap (λ (y : View Asked). y.notes) e)

-- so it is with all that comes by errors, messages and attempts
pub still_follows : (q : id_plan.Plan) → Follows q Still
still_follows q = record {
  same = still_same;
  in_turn = still_then;
  finds = kept_still false;
  looks = λ s t e. quiet_still s t (ap (λ (b : Books). b.retries) e);
  posts = λ s t. posted_still q.slots s t;
}

-- ## Attempts

module _ {O : Type 0} (state : O → OutState) (p : Plan) (q : id_plan.Plan) where
  pub attempted_still : (socket : SocketId) (msg : Letter) (s t : Both) → AttemptedBy state p q socket msg s t → Still s.calls t.calls
  attempted_still = attempted_by q (still_follows q) state p (kept_still true)

  -- the lock was given back, and no advance was made
  unlocked_still : (k : IdLock Asked) (answer : Unlocked Asked) (s t : CallStand) → t.books ≡ s.books → UnlockOk s.view t.view k.slot (parts k.word.0) k.content false answer → Still s t
  unlocked_still k Open s t e u = did_still s t (ap (λ (b : Books). b.retries) e) k.slot [] _ u.4 (none_advances k.slot (parts k.word.0) u.1)
  unlocked_still k (Next l code attempt) s t e u = did_still s t (ap (λ (b : Books). b.retries) e) k.slot _ _ u.3 (none_advances k.slot (parts k.word.0) (parts l.word.0))

  lock_still : (version : ℕ) (k : IdLock Asked) (s t : CallStand) → t.books ≡ s.books → GotBy q.slots version k s.view t.view → Still s t
  lock_still version k s t e g = got_still s t (ap (λ (b : Books). b.retries) e) k.slot g.word (parts k.word.0) k.content g.got

  -- behind the lock of a retry
  pub again_still : (r : Retry) (k : IdLock Asked) (u t : Both) → Rattle.call_run.specs.call_client.specs.call_attempts.specs.WaitingRetries.WentAgain state p q r k u t → Still u.calls t.calls
  again_still r k u t w = let x : CallStand = record { view = w.view; books = u.calls.books } in
      still_then u.calls x t.calls (unlocked_still k Open u.calls x refl w.unlocked) (went_to q (still_follows q) state p (kept_still true) _ _ (record { socks = u.socks; calls = x }) t w.went)

  pub retried_still : (r : Retry) (s t : Both) → RetriedBy state p q r s t → Still s.calls t.calls
  retried_still r s t (had_ended h) = quiet_still s.calls t.calls (ap (λ (b : Books). b.retries) h.books) h.gone.quiet
  retried_still r s t (overtaken k u l o) = let x : CallStand = record { view = o.view; books = u.calls.books } in
      still_then s.calls u.calls t.calls (lock_still r.id k s.calls u.calls l.books l.got)
      (still_then u.calls x t.calls (unlocked_still k (Next o.next o.code o.attempt) u.calls x refl o.unlocked) (decided_still o.decided))
  retried_still r s t (went_again k u l w) = still_then s.calls u.calls t.calls (lock_still r.id k s.calls u.calls l.books l.got) (again_still r k u t w)
