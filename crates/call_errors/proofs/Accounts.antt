-- What a client tells of ended calls is what it ended: of each id as often, unless memory is wanting.
use Rattle.std.proofs.Common.{◌≡◌, ℕ, ◌+◌, ◌*◌, ◌<◌, ◌⊎◌, inl, inr, ⊎_elim, Bool, true, false, cond, eqb, eq-eqb, ne_eqb, List, [], ◌∷◌, ◌++◌, refl, ◌∙◌, ap, sym, subst, arith}
use Rattle.std.specs.Prelude.{None}
use Rattle.std.specs.Prelude.{Option as Maybe}
use mathlib.Core.Logic.{dite}
use native.Mathlib.Decide.{ℕ_discrete}
use Rattle.corr_core.specs.IdSlotWord.{Parts, parts}
use Rattle.corr_core.specs.IdSlotLaw.{only, is_ended}
use Rattle.corr_core.specs.declared.marks.Note.{Note}
use Rattle.corr_core.specs.declared.marks.Note.TheVariants.{Tried, Made, Ended, Locker, Queued, Attempt, Saw}
use Rattle.corr_core.specs.declared.marks.Noted.{Noted}
use Rattle.corr_core.specs.declared.marks.Token.{Token}
use Rattle.corr_core.specs.declared.marks.View.{View}
use Rattle.corr_core.specs.declared.marks.Plan.{Plan}
use Rattle.corr_core.proofs.NoteSums.{only-at, only-else}
use Rattle.corr_id.specs.id_rule.specs.LawfulIdTable.{notes_of}
use Rattle.sock_words.specs.ErrorCodes.{EINTERNAL, ERPCTIMEDOUT}
use Rattle.sock_words.specs.declared.outcome.Outcome.{Outcome}
use Rattle.sock_words.specs.declared.outcome.Outcome.TheVariants.{CallFailed}
use Rattle.sock_message.specs.Asked.{Asked}
use Rattle.corr_id.specs.declared.calls.IdLock.{IdLock}
use Rattle.corr_id.specs.declared.posts.Posted.{Posted}
use Rattle.corr_id.specs.declared.posts.Posted.TheVariants.{Locked as HasLock, Queued as IsQueued, Gone, Stale, Crowded}
use Rattle.corr_id.specs.declared.unlocks.Unlocked.{Unlocked}
use Rattle.corr_id.specs.declared.unlocks.Unlocked.TheVariants.{Open, Next}
use Rattle.corr_id.specs.SeatBehindIdCalls.{Did, Quiet, is_event, events, one, advance_note, error_in}
use Rattle.corr_id.specs.PostAnswers.{PostOk}
use Rattle.corr_id.proofs.IdSeatSplits.{total_append, notes_append}
use Rattle.rpc_client.specs.declared.acting.Told.{Told}
use Rattle.call_errors.specs.ClientBooks.{Books, CallStand, starving, Tells, told, lost}
use Rattle.call_errors.specs.CallEndsWithCode.{EndedWith, failed}
use Rattle.call_errors.specs.Handling.{Advanced, Decided, ends, starves, waits, goes_on}
use Rattle.call_errors.specs.PostedErrors.{Handled, PostedBy}
use Rattle.call_errors.specs.ExpireAndJoinOutcomes.{found_id, TimedOut, SawEnd}
use Rattle.sock_words.specs.PackedWords.{id_slot, id_first}
use Rattle.sock_words.specs.Totals.{total}

-- the outcome is that of the call with this id, which failed
abbrev pub fails : ℕ → Outcome → ℕ
fails id (CallFailed i code) = only id i
fails id _ = 0

abbrev pub is_end : ℕ → Told → ℕ
is_end id x = fails id x.outcome

-- of this id: how often it is told, and how often the seat ended it
abbrev pub told_ends : ℕ → ℕ → Books → ℕ
told_ends i f b = total (is_end (i * 4294967296 + f)) b.told

abbrev pub noted_ends : ℕ → ℕ → View Asked → ℕ
noted_ends i f v = total (is_ended f) (notes_of i v.notes)

-- as much was told more as was ended more, of each id
abbrev pub Accounted : CallStand → CallStand → Type 0
Accounted s t = (i f : ℕ) → f < 4294967296 → told_ends i f t.books + noted_ends i f s.view ≡ told_ends i f s.books + noted_ends i f t.view

abbrev pub Accounts : CallStand → CallStand → Type 0
Accounts s t = (t.books.starved ≡ true) ⊎ Accounted s t

-- ## Notes

-- a note that is no event is no end
pub quiet_note : (f : ℕ) (n : Note Asked) → is_event n ≡ false → is_ended f n ≡ 0
quiet_note f Tried e = refl
quiet_note f (Saw w) e = refl
quiet_note f (Made a b c) e = refl
quiet_note f (Ended g y) e = let k : true ≡ false = e in cc
quiet_note f (Locker g c) e = refl
quiet_note f (Queued g d) e = refl
quiet_note f (Attempt g n) e = refl

one_more : (i f : ℕ) (n : Noted Asked) (ns : List (Noted Asked)) → total (is_ended f) (notes_of i (n ∷ ns)) ≡ cond (eqb n.slot i) (is_ended f n.note) 0 + total (is_ended f) (notes_of i ns)
one_more i f n ns = elim (eqb n.slot i) as (λ b. total (is_ended f) (cond b (n.note ∷ notes_of i ns) (notes_of i ns)) ≡ cond b (is_ended f n.note) 0 + total (is_ended f) (notes_of i ns)) [ true ↦ refl | false ↦ omega arith ]

none_here : (b : Bool) (x : ℕ) → x ≡ 0 → cond b x 0 ≡ 0
none_here true x e = e
none_here false x e = refl

events_by : (i f : ℕ) (n : Noted Asked) (ns : List (Noted Asked)) → total (is_ended f) (notes_of i (events ns)) ≡ total (is_ended f) (notes_of i ns) → (b : Bool) → is_event n.note ≡ b
    → total (is_ended f) (notes_of i (cond b (n ∷ events ns) (events ns))) ≡ total (is_ended f) (notes_of i (n ∷ ns))
events_by i f n ns r true e = let a = one_more i f n ns in let c = one_more i f n (events ns) in omega arith
events_by i f n ns r false e = let a = one_more i f n ns in let c = none_here (eqb n.slot i) (is_ended f n.note) (quiet_note f n.note e) in omega arith

events_ends : (i f : ℕ) (ns : List (Noted Asked)) → total (is_ended f) (notes_of i (events ns)) ≡ total (is_ended f) (notes_of i ns)
events_ends i f [] = refl
events_ends i f (n ∷ ns) = events_by i f n ns (events_ends i f ns) (is_event n.note) refl

-- the seat noted no end
abbrev NoEnd : List (Noted Asked) → Type 0
NoEnd es = (i f : ℕ) → total (is_ended f) (notes_of i es) ≡ 0

no_end_one : (at : ℕ) (n : Note Asked) → ((f : ℕ) → is_ended f n ≡ 0) → NoEnd (one at n)
no_end_one at n h i f = let a = one_more i f (record { slot = at; note = n }) [] in let c = none_here (eqb at i) (is_ended f n) (h f) in omega arith

did_ends : (at : ℕ) (v w : View Asked) (ts : List (Token Asked)) (es : List (Noted Asked)) → Did at v w ts es → NoEnd es → (i f : ℕ) → noted_ends i f w ≡ noted_ends i f v
did_ends at v w ts es d h i f =
    let a = events_ends i f w.notes in let b = events_ends i f v.notes in
    let c : total (is_ended f) (notes_of i (events w.notes)) ≡ total (is_ended f) (notes_of i es ++ notes_of i (events v.notes)) = ap (λ (l : List (Noted Asked)). total (is_ended f) (notes_of i l)) d.added ∙ ap (total (is_ended f)) (notes_append i es (events v.notes)) in
    let e = total_append (is_ended f) (notes_of i es) (notes_of i (events v.notes)) in let z = h i f in omega arith

quiet_ends : (v w : View Asked) → Quiet v w → (i f : ℕ) → noted_ends i f w ≡ noted_ends i f v
quiet_ends v w q i f = sym (events_ends i f w.notes) ∙ (ap (λ (l : List (Noted Asked)). total (is_ended f) (notes_of i l)) q.events_same ∙ events_ends i f v.notes)

no_end_advance : (at : ℕ) (p q : Parts) → NoEnd (advance_note at p q)
no_end_advance at p q = by (eqb p.attempt q.attempt)
  where
    by : (b : Bool) → NoEnd (cond b [] (one at (Attempt p.first q.attempt)))
    by true = λ i f. refl
    by false = no_end_one at (Attempt p.first q.attempt) (λ f. refl)

-- ## Ids

if_so : (b : Bool) (x : ℕ) → b ≡ true → cond b x 0 ≡ x
if_so true x e = refl
if_so false x e = let k : false ≡ true = e in cc

if_not : (b : Bool) (x : ℕ) → b ≡ false → cond b x 0 ≡ 0
if_not true x e = let k : true ≡ false = e in cc
if_not false x e = refl

abbrev pub SameId : ℕ → ℕ → ℕ → ℕ → Type 0
SameId i f j g = only (i * 4294967296 + f) (j * 4294967296 + g) ≡ cond (eqb j i) (only f g) 0

-- in one slot
same_first : (i f g : ℕ) → SameId i f i g
same_first i f g = dite (ℕ_discrete g f)
    (λ d. only-at (i * 4294967296 + f) (i * 4294967296 + g) (ap (λ (n : ℕ). i * 4294967296 + n) d) ∙ sym (if_so (eqb i i) (only f g) (eq-eqb i i refl) ∙ only-at f g d))
    (λ n. only-else (i * 4294967296 + f) (i * 4294967296 + g) (λ q. n (omega (arith, q))) ∙ sym (if_so (eqb i i) (only f g) (eq-eqb i i refl) ∙ only-else f g n))

pub same_id : (i f j g : ℕ) → f < 4294967296 → g < 4294967296 → SameId i f j g
same_id i f j g fl gl = dite (ℕ_discrete j i)
    (λ e. subst (λ (y : ℕ). SameId i f y g) (sym e) (same_first i f g))
    (λ n. only-else (i * 4294967296 + f) (j * 4294967296 + g) (λ q. n (omega (arith, q, fl, gl))) ∙ sym (if_not (eqb j i) (only f g) (ne_eqb j i n)))

-- ## What was ended is told

pub accounts_ended : (k : IdLock Asked) (code : ℕ) (s t : CallStand) → EndedWith k code s t → Accounts s t
accounts_ended k code s t e = by e.tells
  where
    by : Tells (failed k code) s.books t.books → Accounts s t
    by (lost is) = inl (ap (λ (b : Books). b.starved) is)
    by (told is) = inr (λ i f fl.
        let first = (parts k.word.0).first in let low = k.fits.low in
        let a : told_ends i f t.books ≡ told_ends i f s.books + (only (i * 4294967296 + f) (k.slot * 4294967296 + first) + 0) = ap (told_ends i f) is ∙ total_append (is_end (i * 4294967296 + f)) s.books.told (failed k code ∷ []) in
        let b : noted_ends i f t.view ≡ cond (eqb k.slot i) (only f first) 0 + noted_ends i f s.view = ap (λ (l : List (Noted Asked)). total (is_ended f) (notes_of i l)) e.ended.notes ∙ one_more i f (record { slot = k.slot; note = Ended first (parts k.word.0).attempt }) s.view.notes in
        let c = same_id i f k.slot first fl (omega (arith, low)) in omega arith)

-- nothing was told, and nothing ended
still : (s t : CallStand) → t.books.told ≡ s.books.told → ((i f : ℕ) → noted_ends i f t.view ≡ noted_ends i f s.view) → Accounted s t
still s t a b i f fl = let x = ap (total (is_end (i * 4294967296 + f))) a in let y = b i f in omega arith

pub accounts_then : (s u t : CallStand) → Accounted s u → Accounts u t → Accounts s t
accounts_then s u t a b = ⊎_elim (λ x. inl x) (λ h. inr (λ i f fl. let x = a i f fl in let y = h i f fl in omega arith)) b

advanced_accounts : (k : IdLock Asked) (answer : Unlocked Asked) (s t : CallStand) → Advanced k answer s t → Accounted s t
advanced_accounts k Open s t a = still s t (ap (λ (b : Books). b.told) a.kept) (did_ends k.slot s.view t.view _ _ a.unlocked.4 (no_end_advance k.slot (parts k.word.0) a.unlocked.1))
advanced_accounts k (Next l code attempt) s t a = still s t (ap (λ (b : Books). b.told) a.kept) (did_ends k.slot s.view t.view _ _ a.unlocked.3 (no_end_advance k.slot (parts k.word.0) (parts l.word.0)))

pub decided_accounts : {s : CallStand} {k : IdLock Asked} {code : ℕ} {attempt : Maybe ℕ} {t : CallStand} → Decided s k code attempt t → Accounts s t
decided_accounts (ends s k code attempt t a b e) = accounts_ended k code s t e
decided_accounts (starves s k code attempt t a e) = accounts_ended k EINTERNAL (record { view = s.view; books = starving s.books }) t e
decided_accounts (waits s k code attempt t a b e) = inr (advanced_accounts k Open s t e)
decided_accounts (goes_on s k code attempt t u l next of a b e rest) = accounts_then s u t (advanced_accounts k (Next l next of) s u e) (decided_accounts rest)

post_ends : (slots : ℕ) (v w : View Asked) (id code : ℕ) (attempt : Maybe ℕ) (answer : Posted Asked) → PostOk slots v w id code attempt answer → (i f : ℕ) → noted_ends i f w ≡ noted_ends i f v
post_ends slots v w id code attempt (HasLock k) p = did_ends k.slot v w _ _ p.4.1.did (no_end_one k.slot (Locker (parts k.word.0).first k.content) (λ f. refl))
post_ends slots v w id code attempt IsQueued p = did_ends (id_slot id) v w _ _ p.0 (no_end_one (id_slot id) (Queued (id_first id) (error_in code attempt)) (λ f. refl))
post_ends slots v w id code attempt (Gone found) p = quiet_ends v w p.0
post_ends slots v w id code attempt (Stale current) p = quiet_ends v w p.0
post_ends slots v w id code attempt (Crowded first second) p = quiet_ends v w p.0

same_accounts : (s t : CallStand) → t ≡ s → Accounts s t
same_accounts s t e = inr (subst (λ (y : CallStand). Accounted s y) (sym e) (λ i f fl. refl))

handled_accounts : (code : ℕ) (attempt : Maybe ℕ) (answer : Posted Asked) (s t : CallStand) → Handled code attempt answer s t → Accounts s t
handled_accounts code attempt (HasLock k) s t h = decided_accounts h
handled_accounts code attempt IsQueued s t h = same_accounts s t h
handled_accounts code attempt (Gone found) s t h = same_accounts s t h
handled_accounts code attempt (Stale current) s t h = same_accounts s t h
handled_accounts code attempt (Crowded first second) s t h = same_accounts s t h

pub posted_accounts : (slots : ℕ) (s : CallStand) (id code : ℕ) (attempt : Maybe ℕ) (t : CallStand) → PostedBy slots s id code attempt t → Accounts s t
posted_accounts slots s id code attempt t p = let x = p.1 in let u : CallStand = record { view = x.view; books = s.books } in
    accounts_then s u t (still s u refl (post_ends slots s.view x.view id code attempt p.0 x.post)) (handled_accounts code attempt p.0 u t x.handled)

pub timed_out_accounts : (p : Plan) (operation : ℕ) (by : Outcome) (s t : CallStand) → TimedOut p operation by s t → Accounts s t
timed_out_accounts p operation by s t h = posted_accounts p.slots (found_id p operation h.id s) h.id ERPCTIMEDOUT None t (h.answer, h.posted)

pub saw_end_accounts : (p : Plan) (operation : ℕ) (s t : CallStand) → SawEnd p operation s t → Accounts s t
saw_end_accounts p operation s t h = let u : CallStand = record { view = h.view; books = s.books } in
    inr (subst (λ (y : CallStand). Accounted s y) (sym h.after) (still s u refl (quiet_ends (found_id p operation h.id s).view h.view h.quiet)))
