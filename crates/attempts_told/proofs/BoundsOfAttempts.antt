-- What a client noted of attempts: each attempt to which an id advanced is a later one, and its range has it.
use Rattle.std.proofs.Common.{◌≡◌, ℕ, ◌+◌, ◌<◌, ◌≤◌, Bool, true, false, cond, eqb, eq-eqb, ne_eqb, List, [], ◌∷◌, refl, sym, ap, ◌∙◌, subst, arith}
use Rattle.std.specs.Prelude.{Option as Maybe, ◌||◌, if◌then◌else◌}
use mathlib.Core.Logic.{dite}
use native.Mathlib.Decide.{ℕ_discrete, dec_lt}
use Rattle.atomic_table.specs.Table.{Me}
use Rattle.sock_io.specs.declared.link.Out.{Ghosts}
use Rattle.sock_io.specs.LinkHalves.{OutState}
use Rattle.sock_words.specs.declared.plain.Plan.{Plan}
use Rattle.sock_words.specs.declared.socket_id.SocketId.{SocketId}
use Rattle.sock_words.specs.declared.outcome.Outcome.{Outcome}
use Rattle.sock_words.specs.ErrorCodes.{is_final}
use Rattle.call_whys.specs.Below.SockRule.Letter.{Letter}
use Rattle.call_whys.specs.Below.CallTable.DecisionVariants as decisions
use Rattle.seat_programs.specs.declared.task.Op.{Op}
use Rattle.seat_programs.specs.declared.task.Task.{Task}
use Rattle.corr_core.specs.IdSlotWord.{Parts, parts}
use Rattle.corr_core.specs.IdSlotLaw.{pair, is_attempt}
use Rattle.corr_core.specs.declared.marks.Note.{Note}
use Rattle.corr_core.specs.declared.marks.Note.TheVariants.{Made, Ended, Locker, Queued, Attempt}
use Rattle.corr_core.specs.declared.marks.Noted.{Noted}
use Rattle.corr_core.specs.declared.marks.Plan as id_plan
use Rattle.corr_core.specs.declared.marks.Token.{Token}
use Rattle.corr_core.specs.declared.marks.View.{View}
use Rattle.corr_core.proofs.NoteSums.{pair-else, pair-else_first}
use Rattle.id_rule.specs.LawfulIdTable.{notes_of, with_kept}
use Rattle.sock_message.specs.Asked.{Asked}
use Rattle.corr_id.specs.declared.calls.IdLock.{IdLock}
use Rattle.corr_id.specs.declared.posts.Posted.{Posted}
use Rattle.corr_id.specs.declared.posts.Posted.TheVariants.{Locked as HasLock, Queued as IsQueued}
use Rattle.corr_id.specs.declared.unlocks.Unlocked.{Unlocked}
use Rattle.corr_id.specs.declared.unlocks.Unlocked.TheVariants.{Open, Next}
use Rattle.corr_id.specs.SeatBehindIdCalls.{Did, Quiet, GotLock, Became, Found, one, is_saw, advance_note, error_in}
use Rattle.corr_id.specs.PostAnswers.{PostOk}
use Rattle.corr_id.specs.Unlocks.{UnlockOk}
use Rattle.call_whys.specs.Below.CallErrors.Retry.{Retry}
use Rattle.call_whys.specs.Below.CallErrors.ClientBooks.{CallStand, stand_of}
use Rattle.call_whys.specs.Below.CallErrors.LockingByVersion.{GotBy}
use Rattle.call_whys.specs.Below.CallErrors.Handling.{is_whole, decision, Advanced, Decided}
use Rattle.call_whys.specs.Below.CallErrors.Handling as handling
use Rattle.call_whys.specs.Below.CallErrors.PostedErrors.{Handled, PostedBy}
use Rattle.call_whys.specs.Below.CallAttempts.ClientAtBothTables.{Both}
use Rattle.call_whys.specs.Below.CallAttempts.Attempting.{AttemptedBy}
use Rattle.call_whys.specs.Below.CallAttempts.CallBeginning.{MadeFor}
use Rattle.call_whys.specs.Below.CallAttempts.WaitingRetries.{without_oldest, RetriedBy, had_ended, overtaken, went_again}
use Rattle.call_whys.specs.Below.CallClient.ClientBetweenOperations.{Stand, Acted}
use Rattle.call_whys.specs.Below.CallClient.EndedCallsTelling.{quiet_total, did_total, none_of_one}
use Rattle.call_whys.specs.Below.CallRun.Threads.{Thread, IsThread}
use Rattle.call_whys.specs.call_told.proofs.NotesStay.{became_did}
use Rattle.call_whys.specs.call_places.proofs.CallStandFollows.{Follows, attempted_by, went_to, acted}
use Rattle.call_whys.specs.call_places.proofs.Walks.{Walks, run_walk}
use Rattle.call_whys.specs.call_places.proofs.Still.{advances, attempt_silent, advance_there}
use Rattle.call_whys.specs.call_places.proofs.OwnAcceptedMessages.{end_is}
use Rattle.sock_words.specs.PackedWords.{id_slot, id_first}
use Rattle.sock_words.specs.Totals.{total}

-- ## Words of locks

-- the word of a lock has the range of a word that the seat found taken in the lock's slot, which is one of the table's
pub record HasWord (slots : ℕ) (k : IdLock Asked) (v : View Asked) : Type 0 where
  pub inside : k.slot < slots
  pub word : ℕ
  pub found : Found k.slot word v
  pub taken : 0 < (parts word).state
  pub first_is : (parts k.word.0).first ≡ (parts word).first
  pub range_is : (parts k.word.0).range ≡ (parts word).range

got_word : (slots : ℕ) (k : IdLock Asked) (u v : View Asked) (word : ℕ) → k.slot < slots → GotLock k.slot u v word (parts k.word.0) k.content → HasWord slots k v
got_word slots k u v word inside g = record {
  inside = inside;
  word = word;
  found = g.found;
  taken = (let a = g.was_open in omega arith);
  first_is = ap (λ (w : Parts). w.first) g.word_is;
  range_is = ap (λ (w : Parts). w.range) g.word_is;
}

-- that of the lock with which an error is handed out
next_word : (slots : ℕ) (k l : IdLock Asked) (u v : View Asked) (advance : Bool) (code : ℕ) (attempt : Maybe ℕ) → k.slot < slots → UnlockOk u v k.slot (parts k.word.0) k.content advance (Next l code attempt) → HasWord slots l v
next_word slots k l u v advance code attempt inside h = let r = h.4.1 in record {
  inside = subst (λ (i : ℕ). i < slots) (sym h.0) inside;
  word = h.4.0;
  found = subst (λ (i : ℕ). Found i h.4.0 v) (sym h.0) r.was_found;
  taken = (let a = r.was_locked in omega arith);
  first_is = ap (λ (w : Parts). w.first) r.left.1;
  range_is = ap (λ (w : Parts). w.range) r.left.1;
}

-- with the last attempt of a range no error is one for a retry
ends_last : (whole final last : Bool) → last ≡ true → (if whole || (final || last) then decisions.End else decisions.Retry) ≡ decisions.Retry → ⊥
ends_last true final last t h = absurd (cc)
ends_last false true last t h = absurd (cc)
ends_last false false last t h = let a : decisions.End ≡ decisions.Retry = sym (ap (λ b. if b then decisions.End else decisions.Retry) t) ∙ h in absurd (cc)

room_left : (k : IdLock Asked) (code : ℕ) (attempt : Maybe ℕ) → decision k code attempt ≡ decisions.Retry → (parts k.word.0).attempt + 2 < (parts k.word.0).range
room_left k code attempt again = let r = k.fits.room in dite (ℕ_discrete ((parts k.word.0).attempt + 2) (parts k.word.0).range)
    (λ e. absurd (ends_last (is_whole attempt) (is_final code) (eqb ((parts k.word.0).attempt + 2) (parts k.word.0).range) (eq-eqb ((parts k.word.0).attempt + 2) (parts k.word.0).range e) again))
    (λ ne. omega arith)

-- ## Where no attempt was noted

abbrev pub Unmoved : View Asked → View Asked → Type 0
Unmoved v w = (i f n : ℕ) → advances i f n w ≡ advances i f n v

pub unmoved_then : (u v w : View Asked) → Unmoved u v → Unmoved v w → Unmoved u w
unmoved_then u v w a b i f n = b i f n ∙ a i f n

pub unmoved_noted : (v w : View Asked) → w.notes ≡ v.notes → Unmoved v w
unmoved_noted v w e i f n = ap (λ (l : List (Noted Asked)). total (is_attempt f n) (notes_of i l)) e

pub unmoved_quiet : (v w : View Asked) → Quiet v w → Unmoved v w
unmoved_quiet v w q i f n = quiet_total (is_attempt f n) (attempt_silent f n) v w q i

-- by events that are none
unmoved_did : (at : ℕ) (v w : View Asked) (ts : List (Token Asked)) (es : List (Noted Asked)) → Did at v w ts es → ((i f n : ℕ) → total (is_attempt f n) (notes_of i es) ≡ 0) → Unmoved v w
unmoved_did at v w ts es d none_ i f n = let a = did_total (is_attempt f n) (attempt_silent f n) at v w ts es d i in let z = none_ i f n in omega arith

unmoved_one : (at : ℕ) (v w : View Asked) (ts : List (Token Asked)) (x : Note Asked) → ((f n : ℕ) → is_attempt f n x ≡ 0) → Did at v w ts (one at x) → Unmoved v w
unmoved_one at v w ts x none_ d = unmoved_did at v w ts (one at x) d (λ i f n. none_of_one (is_attempt f n) (attempt_silent f n) at x (none_ f n) i)

pub unmoved_got : (at word : ℕ) (v w : View Asked) (p : Parts) (c : Asked) → GotLock at v w word p c → Unmoved v w
unmoved_got at word v w p c g = unmoved_one at v w _ (Locker p.first c) (λ f n. refl) g.did

pub unmoved_ended : {n : ℕ} (at f : ℕ) (v w : View Asked) → Became at v w [] (one at (Ended f n)) → Unmoved v w
unmoved_ended {n} at f v w b = unmoved_one at v w [] (Ended f n) (λ g m. refl) (became_did at v w [] (one at (Ended f n)) b)

pub unmoved_post : (slots : ℕ) (v w : View Asked) (id code : ℕ) (attempt : Maybe ℕ) (answer : Posted Asked) → PostOk slots v w id code attempt answer → Unmoved v w
unmoved_post slots v w id code attempt (HasLock k) p = unmoved_got k.slot p.4.0 v w (parts k.word.0) k.content p.4.1
unmoved_post slots v w id code attempt IsQueued p = unmoved_one (id_slot id) v w _ (Queued (id_first id) (error_in code attempt)) (λ f n. refl) p.0
unmoved_post slots v w id code attempt _ p = unmoved_quiet v w p.0

-- ## Advances

-- 1 where the one note of a slot is this advance
attempt_here : (i f n at g m : ℕ) → 0 < total (is_attempt {C = Asked} f n) (notes_of i (one at (Attempt g m))) → (at ≡ i) × (g ≡ f) × (m ≡ n)
attempt_here i f n at g m h = dite (ℕ_discrete at i)
    (λ e.
    let a : total (is_attempt {C = Asked} f n) (notes_of i (one at (Attempt g m))) ≡ pair f n g m + 0 = ap (λ (b : Bool). total (is_attempt {C = Asked} f n) (cond b (Attempt g m ∷ []) [])) (eq-eqb at i e) in
    dite (ℕ_discrete g f)
    (λ x. dite (ℕ_discrete m n) (λ y. (e, x, y)) (λ ne. absurd (let z = pair-else f n g m ne in omega arith)))
    (λ ne. absurd (let z = pair-else_first f n g m ne in omega arith)))
    (λ ne. absurd (let a : total (is_attempt {C = Asked} f n) (notes_of i (one at (Attempt g m))) ≡ 0 = ap (λ (b : Bool). total (is_attempt {C = Asked} f n) (cond b (Attempt g m ∷ []) [])) (ne_eqb at i ne) in omega arith))

pub advance_none : (i : ℕ) (p q : Parts) → q.attempt ≡ p.attempt + 0 → advance_note {C = Asked} i p q ≡ []
advance_none i p q up = ap (λ (b : Bool). cond b [] (one i (Attempt p.first q.attempt))) (eq-eqb p.attempt q.attempt (omega (arith, up)))

-- attempt n of the range with this first version in slot i is a later one, and the range has it, by a word that the seat found taken
pub record IsBounded (slots i f n : ℕ) (v : View Asked) : Type 0 where
  pub inside : i < slots
  pub word : ℕ
  pub found : Found i word v
  pub taken : 0 < (parts word).state
  pub first_is : (parts word).first ≡ f
  pub later : 0 < n
  pub room : n + 2 ≤ (parts word).range

module _ (slots : ℕ) where
  -- a later view of the same seat: each advance that was noted between has its bounds
  pub record Bounds (v w : View Asked) : Type 0 where
    pub grows : (i : ℕ) (f : Note Asked → ℕ) → total f (notes_of i v.notes) ≤ total f (notes_of i w.notes)
    pub fits : (i f n : ℕ) → advances i f n v < advances i f n w → IsBounded slots i f n w

  bounded_later : (i f n : ℕ) (v w : View Asked) → ((i : ℕ) (f : Note Asked → ℕ) → total f (notes_of i v.notes) ≤ total f (notes_of i w.notes)) → IsBounded slots i f n v → IsBounded slots i f n w
  bounded_later i f n v w grows b = record { inside = b.inside; word = b.word; found = (let x = grows i (is_saw b.word) in let y = b.found in omega arith); taken = b.taken; first_is = b.first_is; later = b.later; room = b.room }

  pub bounds_then : (u v w : View Asked) → Bounds u v → Bounds v w → Bounds u w
  bounds_then u v w a b = record {
    grows = λ i f. (let x = a.grows i f in let y = b.grows i f in omega arith);
    fits = λ i f n less. dite (dec_lt (advances i f n v) (advances i f n w)) (λ lt. b.fits i f n lt) (λ ge. bounded_later i f n v w b.grows (a.fits i f n (omega arith)));
  }

  -- where none was noted
  bounds_none : (v w : View Asked) → ((i : ℕ) (f : Note Asked → ℕ) → total f (notes_of i v.notes) ≤ total f (notes_of i w.notes)) → ((i f n : ℕ) → advances i f n w ≡ advances i f n v) → Bounds v w
  bounds_none v w grows same = record { grows = grows; fits = λ i f n less. absurd (let e = same i f n in omega arith) }

  pub bounds_noted : (v w : View Asked) → w.notes ≡ v.notes → Bounds v w
  bounds_noted v w e = bounds_none v w (λ i f. (let x = ap (λ (l : List (Noted Asked)). total f (notes_of i l)) e in omega arith)) (unmoved_noted v w e)

  bounds_quiet : (v w : View Asked) → Quiet v w → Bounds v w
  bounds_quiet v w q = bounds_none v w q.grows (unmoved_quiet v w q)

  bounds_one : (at : ℕ) (v w : View Asked) (ts : List (Token Asked)) (x : Note Asked) → ((f n : ℕ) → is_attempt f n x ≡ 0) → Did at v w ts (one at x) → Bounds v w
  bounds_one at v w ts x none_ d = bounds_none v w d.grows (unmoved_one at v w ts x none_ d)

  bounds_got : (at word : ℕ) (v w : View Asked) (p : Parts) (c : Asked) → GotLock at v w word p c → Bounds v w
  bounds_got at word v w p c g = bounds_none v w g.did.grows (unmoved_got at word v w p c g)

  bounds_ended : {n : ℕ} (at f : ℕ) (v w : View Asked) → Became at v w [] (one at (Ended f n)) → Bounds v w
  bounds_ended {n} at f v w b = bounds_none v w (became_did at v w [] (one at (Ended f n)) b).grows (unmoved_ended at f v w b)

  -- ## Unlocking

  -- the attempt didn't advance
  bounds_unlocked : (k : IdLock Asked) (v w : View Asked) (answer : Unlocked Asked) → UnlockOk v w k.slot (parts k.word.0) k.content false answer → Bounds v w
  bounds_unlocked k v w Open u = bounds_none v w u.4.grows (unmoved_did k.slot v w [] _ u.4 (λ i f n. ap (λ (l : List (Noted Asked)). total (is_attempt f n) (notes_of i l)) (advance_none k.slot (parts k.word.0) u.1 u.2.attempt_is)))
  bounds_unlocked k v w (Next l code attempt) u = bounds_none v w u.3.grows (unmoved_did k.slot v w _ _ u.3 (λ i f n. ap (λ (x : List (Noted Asked)). total (is_attempt f n) (notes_of i x)) (advance_none k.slot (parts k.word.0) (parts l.word.0) u.4.1.attempt_is)))

  -- or it did, where the range has one more
  module _ (k : IdLock Asked) (v w : View Asked) (has : HasWord slots k v) (room : (parts k.word.0).attempt + 2 < (parts k.word.0).range) (q : Parts) (up : q.attempt ≡ (parts k.word.0).attempt + 1) (ts : List (Token Asked)) (d : Did k.slot v w ts (advance_note k.slot (parts k.word.0) q)) where
    abbrev first : ℕ
    first = (parts k.word.0).first

    more : (i f n : ℕ) → advances i f n v < advances i f n w → (k.slot ≡ i) × (first ≡ f) × (q.attempt ≡ n)
    more i f n less =
        let a = did_total (is_attempt f n) (attempt_silent f n) k.slot v w ts (advance_note k.slot (parts k.word.0) q) d i in
        let b = ap (λ (l : List (Noted Asked)). total (is_attempt f n) (notes_of i l)) (advance_there k.slot (parts k.word.0) q up) in
        attempt_here i f n k.slot first q.attempt (omega arith)

    fits_here : (i f n : ℕ) → (k.slot ≡ i) × (first ≡ f) × (q.attempt ≡ n) → IsBounded slots i f n w
    fits_here i f n e = record {
      inside = subst (λ (j : ℕ). j < slots) e.0 has.inside;
      word = has.word;
      found = subst (λ (j : ℕ). Found j has.word w) e.0 (let x = d.grows k.slot (is_saw has.word) in let y = has.found in omega arith);
      taken = has.taken;
      first_is = sym has.first_is ∙ e.1;
      later = (let x = e.2 in omega arith);
      room = (let x = e.2 in let y = has.range_is in omega arith);
    }

    bounds_more : Bounds v w
    bounds_more = record { grows = d.grows; fits = λ i f n less. fits_here i f n (more i f n less) }

  bounds_advanced : (k : IdLock Asked) (code : ℕ) (attempt : Maybe ℕ) (answer : Unlocked Asked) (s t : CallStand) → HasWord slots k s.view → decision k code attempt ≡ decisions.Retry → Advanced k answer s t → Bounds s.view t.view
  bounds_advanced k code attempt Open s t has again a = let u = a.unlocked in bounds_more k s.view t.view has (room_left k code attempt again) u.1 u.2.attempt_is [] u.4
  bounds_advanced k code attempt (Next l next of) s t has again a = let u = a.unlocked in bounds_more k s.view t.view has (room_left k code attempt again) (parts l.word.0) u.4.1.attempt_is _ u.3

  -- ## What becomes of errors

  abbrev Here : CallStand → CallStand → Type 0
  Here s t = Bounds s.view t.view

  same : (s t : CallStand) → t ≡ s → Here s t
  same s t e = bounds_noted s.view t.view (ap (λ (y : CallStand). y.view.notes) e)

  in_turn : (s u t : CallStand) → Here s u → Here u t → Here s t
  in_turn s u t a b = bounds_then s.view u.view t.view a b

  decided : {s : CallStand} {k : IdLock Asked} {code : ℕ} {attempt : Maybe ℕ} {t : CallStand} → Decided s k code attempt t → HasWord slots k s.view → Here s t
  decided (handling.ends s k code attempt t a b e) has = bounds_ended k.slot (parts k.word.0).first s.view t.view e.ended
  decided (handling.starves s k code attempt t a e) has = bounds_ended k.slot (parts k.word.0).first s.view t.view e.ended
  decided (handling.waits s k code attempt t a b e) has = bounds_advanced k code attempt Open s t has b e
  decided (handling.goes_on s k code attempt t u l next of a b e rest) has = in_turn s u t (bounds_advanced k code attempt (Next l next of) s u has b e) (decided rest (next_word slots k l s.view u.view true next of has.inside e.unlocked))

  post : (v w : View Asked) (id code : ℕ) (attempt : Maybe ℕ) (answer : Posted Asked) → PostOk slots v w id code attempt answer → Bounds v w
  post v w id code attempt (HasLock k) p = bounds_got k.slot p.4.0 v w (parts k.word.0) k.content p.4.1
  post v w id code attempt IsQueued p = bounds_one (id_slot id) v w _ (Queued (id_first id) (error_in code attempt)) (λ f n. refl) p.0
  post v w id code attempt _ p = bounds_quiet v w p.0

  handled : (id code : ℕ) (attempt : Maybe ℕ) (answer : Posted Asked) (u : View Asked) (s t : CallStand) → PostOk slots u s.view id code attempt answer → Handled code attempt answer s t → Here s t
  handled id code attempt (HasLock k) u s t p d = decided d (got_word slots k u s.view p.4.0 p.1 p.4.1)
  handled id code attempt _ u s t p e = same s t e

  posted : (s t : CallStand) (id code : ℕ) (attempt : Maybe ℕ) → PostedBy slots s id code attempt t → Here s t
  posted s t id code attempt p =
      let u : CallStand = record { view = p.1.view; books = s.books } in
      in_turn s u t (post s.view p.1.view id code attempt p.0 p.1.post) (handled id code attempt p.0 s.view u t p.1.post p.1.handled)

  -- a word of an operation was noted
  kept : (own : Bool) (s t : CallStand) (place word : ℕ) → t.view ≡ with_kept place own word s.view → t.books ≡ s.books → Here s t
  kept own s t place word e b = bounds_noted s.view t.view (ap (λ (y : View Asked). y.notes) e)

module _ (q : id_plan.Plan) where
  abbrev Grown : CallStand → CallStand → Type 0
  Grown s t = Bounds q.slots s.view t.view

  -- so it is with all that comes by errors, messages and attempts
  all_grow : Follows q Grown
  all_grow = record {
    same = same q.slots;
    in_turn = in_turn q.slots;
    finds = kept q.slots false;
    looks = λ s t e. bounds_quiet q.slots s.view t.view;
    posts = posted q.slots;
  }

  -- ## Attempts

  module _ {O : Type 0} (state : O → OutState) (p : Plan) where
    pub attempted_grows : (socket : SocketId) (msg : Letter) (s t : Both) → AttemptedBy state p q socket msg s t → Grown s.calls t.calls
    attempted_grows = attempted_by q all_grow state p (kept q.slots true)

    pub made_for : (asked : Asked) (id : ℕ) (socket : SocketId) (s t : Both) → MadeFor state p q asked id socket s t → Grown s.calls t.calls
    made_for asked id socket s t m = bounds_then q.slots s.calls.view m.view t.calls.view (bounds_one q.slots (id_slot id) s.calls.view m.view [] (Made (id_first id) asked.range asked) (λ f n. refl) m.made.did)
        (bounds_noted q.slots m.view t.calls.view (ap (λ (y : View Asked). y.notes) m.noted))

    locked : (r : Retry) (k : IdLock Asked) (v w : View Asked) → GotBy q.slots r.id k v w → Bounds q.slots v w
    locked r k v w g = bounds_got q.slots k.slot g.word v w (parts k.word.0) k.content g.got

    retried_by : (r : Retry) (s t : Both) → RetriedBy state p q r s t → Grown s.calls t.calls
    retried_by r s t (had_ended h) = bounds_quiet q.slots s.calls.view t.calls.view h.gone.quiet
    retried_by r s t (overtaken k u l o) =
        let x : CallStand = record { view = o.view; books = u.calls.books } in
        in_turn q.slots s.calls u.calls t.calls (locked r k s.calls.view u.calls.view l.got) (in_turn q.slots u.calls x t.calls (bounds_unlocked q.slots k u.calls.view o.view (Next o.next o.code o.attempt) o.unlocked)
        (decided q.slots o.decided (next_word q.slots k o.next u.calls.view o.view false o.code o.attempt l.got.inside o.unlocked)))
    retried_by r s t (went_again k u l w) =
        let x : CallStand = record { view = w.view; books = u.calls.books } in
        in_turn q.slots s.calls u.calls t.calls (locked r k s.calls.view u.calls.view l.got) (in_turn q.slots u.calls x t.calls (bounds_unlocked q.slots k u.calls.view w.view Open w.unlocked) (went_to q all_grow state p (kept q.slots true) _ _ (record { socks = u.socks; calls = x }) t w.went))

    -- ## A client's run

    module _ {g : Ghosts O} where
      pub acted_grows : (number : ℕ) (op : Op) (by : Maybe Outcome) (s t : Stand g) → Acted state p q number op by s t → Grown s.calls t.calls
      acted_grows = acted q all_grow state p (kept q.slots true) made_for

      all_bounds : (xs : List Task) → Walks {g = g} state p q xs (λ ds s t. Grown s.calls t.calls)
      all_bounds xs = record {
        none = λ s t e. same q.slots s.calls t.calls (ap (λ (y : Both). y.calls) e);
        in_turn = λ ds es s u t. in_turn q.slots s.calls u.calls t.calls;
        retry = λ u t r rest waits by. retried_by r (without_oldest rest u) t by;
        operation = λ n x at by. acted_grows x.number x.op by;
      }

-- ## A whole run

module _ {O : Type 0} {g : Ghosts O} {state : O → OutState} {p : Plan} {q : id_plan.Plan} {first : ℕ} (x : Thread g) (th : IsThread state p q first x) where
  run_bounds : Bounds q.slots x.began.calls.seat.me.0 x.ended.calls.seat.me.0
  run_bounds =
      let end : stand_of x.ended.calls ≡ th.ran.last.calls = th.ran.calls ∙ ap (λ (s : Stand g). s.calls) (end_is x th) in
      subst (λ (c : CallStand). Bounds q.slots x.began.calls.seat.me.0 c.view) (sym end) (run_walk x th (all_bounds q state p x.tasks))

  -- each advance that the client noted has its bounds
  pub all_bounded : (i f n : ℕ) → 0 < advances i f n x.ended.calls.seat.me.0 → IsBounded q.slots i f n x.ended.calls.seat.me.0
  all_bounded i f n some_ =
      let none_ : advances i f n x.began.calls.seat.me.0 ≡ 0 = ap (λ (m : Me (Maybe Asked) (View Asked)). advances i f n m.0) th.ids in
      run_bounds.fits i f n (omega arith)
