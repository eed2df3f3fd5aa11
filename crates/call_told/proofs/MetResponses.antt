-- What becomes of a response that a seat met: it ended a call of its version, is kept, or a word past its range was found. So it is from then on; and the code of a reading ends no call of its version any more.
use Rattle.std.proofs.Common.{◌≡◌, ℕ, zero, suc, ◌+◌, ◌<◌, ◌≤◌, ◌⊎◌, inl, inr, ⊎_elim, Bool, true, false, cond, eq-eqb, ne_eqb, le-leb, lt-ltb, lt_of_not-le, length, List, [], ◌∷◌, Some, None, refl, sym, ap, ◌∙◌, subst, arith}
use Rattle.std.specs.Prelude.{Option, position, not, nat_le, ◌==◌, if◌then◌else◌}
use Rattle.std.specs.List.{remove, position_or_len}
use Rattle.std.proofs.lemmas.List.Quantifiers.{position-Some}
use mathlib.Core.Logic.{dite}
use mathlib.Core.Option.{some, some-injective, some-ne-none}
use native.Mathlib.Decide.{ℕ_discrete, dec_le}
use lib.ListN.{get_elem?}
use Rattle.sock_words.specs.PackedWords.{at_word_link, id_slot, id_first}
use Rattle.sock_words.specs.declared.at_word.AtWord.{AtWord}
use Rattle.sock_words.specs.declared.outcome.Outcome.{Outcome}
use Rattle.sock_words.specs.declared.outcome.Outcome.TheVariants.{CallFailed}
use Rattle.corr_core.specs.IdSlotWord.{Parts, parts, locked_word}
use Rattle.corr_core.specs.IdSlotLaw.{is_ended}
use Rattle.corr_core.specs.declared.marks.Note.{Note}
use Rattle.corr_core.specs.declared.marks.Note.TheVariants.{Ended}
use Rattle.corr_core.specs.declared.marks.Plan.{Plan}
use Rattle.corr_core.specs.declared.marks.View.{View}
use Rattle.corr_core.specs.IdRangeVersions.{is_early}
use Rattle.corr_core.proofs.NoteSums.{only-same}
use Rattle.id_rule.specs.LawfulIdTable.{at_index, notes_of, with_kept}
use Rattle.corr_id.specs.declared.posts.Posted.{Posted}
use Rattle.corr_id.specs.declared.posts.Posted.TheVariants.{Locked as HasLock}
use Rattle.corr_id.specs.LocksByAttempt.{LacksAttempt}
use Rattle.corr_id.specs.SeatBehindIdCalls.{Became, one, is_saw, Found, FoundUpTo, GotLock}
use Rattle.corr_id.specs.PostAnswers.{PostOk}
use Rattle.corr_id.proofs.TokensOfIdCalls.{became_grows}
use Rattle.sock_message.specs.Asked.{Asked}
use Rattle.prpc_frame.specs.FrameMeaning.{frame_of}
use Rattle.prpc_frame.specs.declared.frame.Frame.{Frame}
use Rattle.brpc_model.specs.ResponseOutcome.{ending_of}
use Rattle.call_deeds.specs.Below.RpcClient.Told.{Told}
use Rattle.call_deeds.specs.Below.RpcReader.ReaderBooks.{Books, EndedAs, ToldBy, id_of}
use Rattle.call_deeds.specs.Below.RpcReader.Met.{slot_in, version_in, is_asked, is_for, AnsweredBy, LackedBy, KeptIf, MetIf, FrameMet, FramesMet}
use Rattle.call_deeds.specs.Below.RpcReader.PostingAtReadingEnd.{LostBy, LockLost, PostedTo, MetKept, PostedIf, PostedAt, PostedAll, call_at, attempt_at}
use Rattle.call_deeds.specs.Below.RpcReader.CallsLeftAfterReading.{HadEnded, EndedLast, OneEnded, RestEnded}
use Rattle.call_deeds.specs.call_places.specs.sock_deeds.proofs.Flats.{append_first}
use Rattle.call_told.proofs.GivenResponseFrames.{for_is}
use Rattle.call_told.proofs.ListElementsByPlace.{last_there, elem_or}
use Rattle.sock_words.specs.Totals.{total}

-- ## Elements of lists

module _ {A : Type 0} where
  -- what stands in a list is the one that is removed, or stands there still
  but_one : (xs : List A) (i n : ℕ) (x y : A) → get_elem? xs i ≡ some y → get_elem? xs n ≡ some x → (x ≡ y) ⊎ ((m : ℕ) × (get_elem? (remove xs i) m ≡ some x))
  but_one [] i n x y e e' = absurd (some-ne-none y (sym e))
  but_one (z ∷ xs) zero zero x y e e' = inl (some-injective x y (sym e' ∙ e))
  but_one (z ∷ xs) zero (suc n) x y e e' = inr (n, e')
  but_one (z ∷ xs) (suc i) zero x y e e' = inr (0, e')
  but_one (z ∷ xs) (suc i) (suc n) x y e e' = ⊎_elim (λ a. inl a) (λ r. inr (suc r.0, r.1)) (but_one xs i n x y e e')

  -- where none passes, none that stands there does
  passes_before : (p : A → Bool) (xs : List A) (n : ℕ) (x : A) → get_elem? xs n ≡ some x → p x ≡ true → position_or_len p xs < length xs
  passes_before p [] n x e is = absurd (some-ne-none x (sym e))
  passes_before p (y ∷ xs) n x e is = by (later n e (λ m at. passes_before p xs m x at is)) (p y) refl
    where
      later : (n : ℕ) → get_elem? (y ∷ xs) n ≡ some x → ((m : ℕ) → get_elem? xs m ≡ some x → position_or_len p xs < length xs) → p y ≡ false → position_or_len p xs < length xs
      later zero e rest fails = absurd (let z : true ≡ false = sym is ∙ ap p (sym (some-injective y x e)) ∙ fails in cc)
      later (suc n) e rest fails = rest n e

      by : (p y ≡ false → position_or_len p xs < length xs) → (b : Bool) → p y ≡ b → cond (not (p y)) (1 + position_or_len p xs) 0 < suc (length xs)
      by more true holds = subst (λ (b : Bool). cond (not b) (1 + position_or_len p xs) 0 < suc (length xs)) (sym holds) (omega arith)
      by more false fails = subst (λ (b : Bool). cond (not b) (1 + position_or_len p xs) 0 < suc (length xs)) (sym fails) (let a = more fails in omega (arith, a))

  unkept : (p : A → Bool) (xs : List A) (n : ℕ) (x : A) → position p xs ≡ None → get_elem? xs n ≡ some x → p x ≡ true → ⊥
  unkept p xs n x none_ e is =
      let k : Some (position_or_len p xs) ≡ None = sym (ap (λ b. cond b (Some (position_or_len p xs)) None) (lt-ltb (position_or_len p xs) (length xs) (passes_before p xs n x e is))) ∙ none_ in cc

-- ## Of one response

-- the seat found a word whose range has the response's version, and ended that range
pub record HasEnded (f : Frame) (v : View Asked) : Type 0 where
  pub word : ℕ
  pub found : Found (slot_in f) word v
  pub taken : 0 < (parts word).state
  pub from : (parts word).first < version_in f
  pub below : version_in f < (parts word).first + (parts word).range
  pub noted : 0 < total (is_ended (parts word).first) (notes_of (slot_in f) v.notes)

-- it ended a call, or it is kept, or a word past it was found; or memory was wanting
pub data IsMet (f : Frame) (b : Books) : Type 0 where
  by_end : HasEnded f b.view → IsMet f b
  by_keeping : (n : ℕ) → get_elem? b.early n ≡ some f → IsMet f b
  by_passing : (word : ℕ) → Found (slot_in f) word b.view → version_in f ≤ (parts word).first → IsMet f b
  by_want : b.starved ≡ true → IsMet f b

abbrev pub NotesGrow : View Asked → View Asked → Type 0
NotesGrow v w = (j : ℕ) (g : Note Asked → ℕ) → total g (notes_of j v.notes) ≤ total g (notes_of j w.notes)

found_still : (i word : ℕ) (v w : View Asked) → NotesGrow v w → Found i word v → Found i word w
found_still i word v w grows f = let a = grows i (is_saw word) in omega (arith, a, f)

pub ended_still : (f : Frame) (v w : View Asked) → NotesGrow v w → HasEnded f v → HasEnded f w
ended_still f v w grows h = record {
  word = h.word;
  found = found_still (slot_in f) h.word v w grows h.found;
  taken = h.taken;
  from = h.from;
  below = h.below;
  noted = (let a = grows (slot_in f) (is_ended (parts h.word).first) in let e = h.noted in omega (arith, a, e));
}

-- from these books to those: what is noted is so still, and a response that was kept is kept still, or it was met
pub record Goes (slots : ℕ) (b b' : Books) : Type 0 where
  pub grows : NotesGrow b.view b'.view
  pub starved : b.starved ≡ true → b'.starved ≡ true
  pub early : (f : Frame) (n : ℕ) → is_asked slots f ≡ true → get_elem? b.early n ≡ some f → IsMet f b'

-- another seat took in what this one has
pub met_in : (f : Frame) (b c : Books) → NotesGrow b.view c.view → (b.starved ≡ true → c.starved ≡ true) → ((n : ℕ) → get_elem? b.early n ≡ some f → (m : ℕ) × (get_elem? c.early m ≡ some f)) → IsMet f b → IsMet f c
met_in f b c grows starved early (by_end h) = by_end (ended_still f b.view c.view grows h)
met_in f b c grows starved early (by_keeping n at) = let w = early n at in by_keeping w.0 w.1
met_in f b c grows starved early (by_passing word found past) = by_passing word (found_still (slot_in f) word b.view c.view grows found) past
met_in f b c grows starved early (by_want s) = by_want (starved s)

module _ (slots : ℕ) where
  pub met_still : (f : Frame) (b b' : Books) → is_asked slots f ≡ true → Goes slots b b' → IsMet f b → IsMet f b'
  met_still f b b' asked g (by_end h) = by_end (ended_still f b.view b'.view g.grows h)
  met_still f b b' asked g (by_keeping n at) = g.early f n asked at
  met_still f b b' asked g (by_passing word found past) = by_passing word (found_still (slot_in f) word b.view b'.view g.grows found) past
  met_still f b b' asked g (by_want s) = by_want (g.starved s)

  pub goes_then : (a b c : Books) → Goes slots a b → Goes slots b c → Goes slots a c
  goes_then a b c s t = record {
    grows = λ j g. (let x = s.grows j g in let y = t.grows j g in omega (arith, x, y));
    starved = λ h. t.starved (s.starved h);
    early = λ f n asked at. met_still f b c asked t (s.early f n asked at);
  }

  -- what is kept stays the same
  pub goes_so : (b b' : Books) → NotesGrow b.view b'.view → (b.starved ≡ true → b'.starved ≡ true) → b'.early ≡ b.early → Goes slots b b'
  goes_so b b' grows starved early = record { grows = grows; starved = starved; early = λ f n asked at. by_keeping n (subst (λ (l : List Frame). get_elem? l n ≡ some f) (sym early) at) }

  pub goes_same : (b b' : Books) → b' ≡ b → Goes slots b b'
  goes_same b b' e = subst (λ (x : Books). Goes slots b x) (sym e) (goes_so b b (λ j g. omega arith) (λ h. h) refl)

  pub goes_view : (b : Books) (v : View Asked) → NotesGrow b.view v → Goes slots b (record b { view = v })
  goes_view b v grows = goes_so b (record b { view = v }) grows (λ h. h) refl

  pub same_notes : (v w : View Asked) → w.notes ≡ v.notes → NotesGrow v w
  same_notes v w e j g = let a = ap (λ l. total g (notes_of j l)) e in omega (arith, a)

  -- ## The end of a call

  told_starved : (number : ℕ) (by : Outcome) (told told' : List Told) (s s' : Bool) → ToldBy number by told s told' s' → s ≡ true → s' ≡ true
  told_starved number by told told' s s' (inl t) h = t.1 ∙ h
  told_starved number by told told' s s' (inr t) h = t.1

  ended_goes : (slot : ℕ) (w : Parts) (call : Asked) (by : Outcome) (b b' : Books) → EndedAs slot w call by b b' → b'.early ≡ b.early → Goes slots b b'
  ended_goes slot w call by b b' e early = goes_so b b' (became_grows slot b.view b'.view [] (one slot (Ended w.first w.attempt)) e.ended) (told_starved call.operation by b.told b'.told b.starved b'.starved e.told) early

  ended_noted : {n : ℕ} (slot first : ℕ) (v w : View Asked) → Became slot v w [] (one slot (Ended first n)) → 0 < total (is_ended first) (notes_of slot w.notes)
  ended_noted {n} slot first v w b = let e = ap (λ l. total (is_ended first) (notes_of slot l)) b.notes in
      let g = ap (λ y. total (is_ended first) (cond y (Ended first n ∷ notes_of slot v.notes) (notes_of slot v.notes))) (eq-eqb slot slot refl) in let k = only-same first in omega (arith, e, g, k)

  -- a response of the range that was ended
  has_ended : (f : Frame) (slot word : ℕ) (w : Parts) (call : Asked) (by : Outcome) (b b' : Books) → slot_in f ≡ slot → w.first < version_in f → version_in f < w.first + w.range → Found slot word b.view → (parts word).state ≡ 1 → w ≡ locked_word (parts word) → EndedAs slot w call by b b' → HasEnded f b'.view
  has_ended f slot word w call by b b' at from below found open_ is e =
      let first : w.first ≡ (parts word).first = ap (λ (p : Parts). p.first) is in let range : w.range ≡ (parts word).range = ap (λ (p : Parts). p.range) is in record {
        word = word;
        found = subst (λ (i : ℕ). Found i word b'.view) (sym at) (found_still slot word b.view b'.view (became_grows slot b.view b'.view [] (one slot (Ended w.first w.attempt)) e.ended) found);
        taken = omega (arith, open_);
        from = omega (arith, first, from);
        below = omega (arith, first, range, below);
        noted = subst (λ (i : ℕ). 0 < total (is_ended (parts word).first) (notes_of i b'.view.notes)) (sym at) (subst (λ (g : ℕ). 0 < total (is_ended g) (notes_of slot b'.view.notes)) first (ended_noted slot w.first b.view b'.view e.ended));
      }

  -- ## Frames

  answered_goes : (f : Frame) (b b' : Books) → AnsweredBy slots f b b' → Goes slots b b'
  answered_goes f b b' a = let u : Books = record b { view = a.locked } in
      goes_then b u b' (goes_view b a.locked a.got.did.grows) (ended_goes (slot_in f) a.word a.call (ending_of (id_of (slot_in f) a.word) (frame_of f)) u b' a.ended a.early)

  answered_met : (f : Frame) (b b' : Books) → AnsweredBy slots f b b' → IsMet f b'
  answered_met f b b' a = by_end (has_ended f (slot_in f) a.found a.word a.call (ending_of (id_of (slot_in f) a.word) (frame_of f)) (record b { view = a.locked }) b' refl a.version.0 a.version.1 a.got.found a.got.was_open a.got.word_is a.ended)

  lacked_goes : (c : Bool) (f : Frame) (b b' : Books) → NotesGrow b.view b'.view → KeptIf c f b.early b.starved b'.early b'.starved → Goes slots b b'
  lacked_goes true f b b' grows (inl k) = record {
    grows = grows;
    starved = λ h. k.1 ∙ h;
    early = λ x n asked at. by_keeping n (subst (λ (l : List Frame). get_elem? l n ≡ some x) (sym k.0) (append_first b.early (f ∷ []) n x at));
  }
  lacked_goes true f b b' grows (inr k) = goes_so b b' grows (λ h. k.1) k.0
  lacked_goes false f b b' grows k = goes_so b b' grows (λ h. k.1 ∙ h) k.0

  not_later : (a v : ℕ) → nat_le a v ≡ false → v < a
  not_later a v e = dite (dec_le a v) (λ le. absurd (let t = le-leb a v le in let z : true ≡ false = sym t ∙ e in cc)) (λ n. lt_of_not-le n)

  -- a word that lacks the version of a response that isn't early is past it
  late_past : (w : Parts) (v : ℕ) → is_early v w ≡ false → LacksAttempt w v → v ≤ w.first
  late_past w v late lacks = dite (ℕ_discrete w.state 0)
      (λ z. let a = not_later w.first v (sym (ap (λ b. if b then nat_le w.first v else nat_le (w.first + w.range) v) (eq-eqb w.state 0 z)) ∙ late) in omega (arith, a))
      (λ n. let a = not_later (w.first + w.range) v (sym (ap (λ b. if b then nat_le w.first v else nat_le (w.first + w.range) v) (ne_eqb w.state 0 n)) ∙ late) in
      ⊎_elim (λ z. absurd (n z)) (λ h. ⊎_elim (λ le. le) (λ past. omega (arith, a, past)) h) lacks)

  lacked_met : (c : Bool) (f : Frame) (b b' : Books) (l : LackedBy f b b') → is_early (version_in f) (parts l.word) ≡ c → KeptIf c f b.early b.starved b'.early b'.starved → IsMet f b'
  lacked_met true f b b' l e (inl k) = let r = last_there b.early f in by_keeping r.0 (subst (λ (xs : List Frame). get_elem? xs r.0 ≡ some f) (sym k.0) r.1)
  lacked_met true f b b' l e (inr k) = by_want k.1
  lacked_met false f b b' l e k = by_passing l.word l.found (late_past (parts l.word) (version_in f) e l.lacks)

  met_goes : (a : Bool) (f : Frame) (b b' : Books) → MetIf a slots f b b' → Goes slots b b'
  met_goes true f b b' (inl a) = answered_goes f b b' a
  met_goes true f b b' (inr l) = lacked_goes (is_early (version_in f) (parts l.word)) f b b' l.quiet.grows l.kept
  met_goes false f b b' e = goes_same b b' e

  met_met : (f : Frame) (b b' : Books) → MetIf true slots f b b' → IsMet f b'
  met_met f b b' (inl a) = answered_met f b b' a
  met_met f b b' (inr l) = lacked_met (is_early (version_in f) (parts l.word)) f b b' l refl l.kept

  pub frame_met : (f : Frame) (b b' : Books) → is_asked slots f ≡ true → FrameMet slots f b b' → IsMet f b'
  frame_met f b b' asked m = met_met f b b' (subst (λ (a : Bool). MetIf a slots f b b') asked m)

  pub frames_goes : (fs : List Frame) (b b' : Books) → FramesMet slots fs b b' → Goes slots b b'
  frames_goes [] b b' m = goes_same b b' m
  frames_goes (f ∷ fs) b b' m = goes_then b m.0 b' (met_goes (is_asked slots f) f b m.0 m.1) (frames_goes fs m.0 b' m.2)

  -- each of the frames is met
  pub frames_met : (fs : List Frame) (n : ℕ) (f : Frame) (b b' : Books) → get_elem? fs n ≡ some f → is_asked slots f ≡ true → FramesMet slots fs b b' → IsMet f b'
  frames_met [] n f b b' at asked m = absurd (some-ne-none f (sym at))
  frames_met (g ∷ fs) zero f b b' at asked m = met_still f m.0 b' asked (frames_goes fs m.0 b' m.2) (frame_met f b m.0 asked (subst (λ (x : Frame). FrameMet slots x b m.0) (some-injective g f at) m.1))
  frames_met (g ∷ fs) (suc n) f b b' at asked m = frames_met fs n f m.0 b' at asked m.2

  -- ## Codes

  module _ (code : ℕ) where
    pub lost_goes : (slot : ℕ) (w : Parts) (call : Asked) (u : View Asked) (word : ℕ) (b b' : Books) → GotLock slot u b.view word w call → LockLost slot w call code b b' → Goes slots b b'
    lost_goes slot w call u word b b' got lost = by (position (is_for slot w) b.early) refl lost
      where
        by : (o : Option ℕ) → position (is_for slot w) b.early ≡ o → LostBy slot w call code o b b' → Goes slots b b'
        by None e l = ended_goes slot w call (CallFailed (id_of slot w) code) b b' l.0 l.1
        by (Some i) e l = record {
          grows = became_grows slot b.view b'.view [] (one slot (Ended w.first w.attempt)) l.3.ended;
          starved = told_starved call.operation _ b.told b'.told b.starved b'.starved l.3.told;
          early = λ f n asked at. ⊎_elim
              (λ same. by_end (subst (λ (x : Frame). HasEnded x b'.view) (sym same) (has_ended l.0 slot word w call (ending_of (id_of slot w) (frame_of l.0)) b b' is.0 is.1 is.2 got.found got.was_open got.word_is l.3)))
              (λ r. by_keeping r.0 (subst (λ (xs : List Frame). get_elem? xs r.0 ≡ some f) (sym l.2) r.1))
              (but_one b.early i n f l.0 l.1 at);
        }
          where
            is : (slot_in l.0 ≡ slot) × (w.first < version_in l.0) × (version_in l.0 < w.first + w.range)
            is = for_is slot w l.0 (ap (is_for slot w) (sym (elem_or b.early i l.0 l.0 l.1)) ∙ (position-Some (is_for slot w) b.early i l.0 e).1)

    pub post_grows : (v w : View Asked) (id : ℕ) (attempt : Option ℕ) (answer : Posted Asked) → PostOk slots v w id code attempt answer → NotesGrow v w
    post_grows v w id attempt (HasLock k) p = p.4.1.did.grows
    post_grows v w id attempt _ p = p.0.grows

    posted_to : (v : View Asked) (id : ℕ) (attempt : Option ℕ) (answer : Posted Asked) (b b' : Books) → PostOk slots v b.view id code attempt answer → PostedTo code answer b b' → Goes slots b b'
    posted_to v id attempt (HasLock k) b b' post h = lost_goes k.slot (parts k.word.0) k.content v post.4.0 b b' post.4.1 h
    posted_to v id attempt _ b b' post h = goes_same b b' h

    -- a response that was kept is met again
    again_goes : (w : ℕ) (b b' : Books) → MetKept slots w b b' → Goes slots b b'
    again_goes w b b' m = let u : Books = record b { view = m.seen; early = remove b.early m.place } in let rest = met_goes (is_asked slots m.frame) m.frame u b' m.met in record {
      grows = λ j g. (let x = m.quiet.grows j g in let y = rest.grows j g in omega (arith, x, y));
      starved = rest.starved;
      early = λ f n asked at. ⊎_elim
          (λ same. subst (λ (x : Frame). IsMet x b') (sym same) (frame_met m.frame u b' (subst (λ (x : Frame). is_asked slots x ≡ true) same asked) m.met))
          (λ r. rest.early f r.0 asked r.1)
          (but_one b.early m.place n f m.frame m.there at);
    }

    pub posted_if : (a : Bool) (w : ℕ) (b b' : Books) → PostedIf a slots code w b b' → Goes slots b b'
    posted_if false w b b' h = goes_same b b' h
    posted_if true w b b' (inl m) = again_goes w b b' m
    posted_if true w b b' (inr h) = let u : Books = record b { view = h.seen } in
        goes_then b u b' (goes_view b h.seen (post_grows b.view h.seen (call_at w) (attempt_at w) h.answer h.posted)) (posted_to b.view (call_at w) (attempt_at w) h.answer u b' h.posted h.then_)

    pub posted_goes : (p : Plan) → p.slots ≡ slots → (link operation : ℕ) (found : Option AtWord) (b b' : Books) → PostedAt p link code operation found b b' → Goes slots b b'
    posted_goes p is link operation None b b' h = goes_same b b' h.same
    posted_goes p is link operation (Some w) b b' h =
        let v = with_kept (at_index p operation) false w.0 b.view in let u : Books = record b { view = v } in
        goes_then b u b' (goes_view b v (same_notes b.view v refl)) (posted_if (at_word_link w.0 == link) w.0 u b' (subst (λ (n : ℕ). PostedIf (at_word_link w.0 == link) n code w.0 u b') is h))

    pub all_goes : (p : Plan) → p.slots ≡ slots → (link : ℕ) (os : List ℕ) (b b' : Books) → PostedAll p link code os b b' → Goes slots b b'
    all_goes p is link [] b b' h = goes_same b b' h
    all_goes p is link (o ∷ os) b b' h = goes_then b h.0 b' (posted_goes p is link o h.1.0 b h.0 h.1.1) (all_goes p is link os h.0 b' h.2)

    pub id_goes : (id : ℕ) (b b' : Books) → HadEnded slots id b b' ⊎ EndedLast slots code id b b' → Goes slots b b'
    id_goes id b b' (inl h) = goes_so b b' h.quiet.grows (λ s. ap (λ (x : Books). x.starved) h.same ∙ s) (ap (λ (x : Books). x.early) h.same)
    id_goes id b b' (inr l) = let u : Books = record b { view = l.locked } in goes_then b u b' (goes_view b l.locked l.got.did.grows) (lost_goes (id_slot id) l.word l.call b.view l.found u b' l.got l.lost)

    pub one_goes : (p : Plan) → p.slots ≡ slots → (operation : ℕ) (b b' : Books) → OneEnded p code operation b b' → Goes slots b b'
    one_goes p is operation b b' (inl n) = goes_same b b' (n.same ∙ ap (λ (v : View Asked). record b { view = v }) n.view)
    one_goes p is operation b b' (inr n) = let u : Books = record b { view = n.seen } in
        goes_then b u b' (goes_view b n.seen (same_notes b.view n.seen (ap (λ (v : View Asked). v.notes) n.kept))) (id_goes n.id u b' (subst (λ (s : ℕ). HadEnded s n.id u b' ⊎ EndedLast s code n.id u b') is n.ends))

    pub rest_goes : (p : Plan) → p.slots ≡ slots → (os : List ℕ) (b b' : Books) → RestEnded p code os b b' → Goes slots b b'
    rest_goes p is [] b b' h = goes_same b b' h
    rest_goes p is (o ∷ os) b b' h = goes_then b h.0 b' (one_goes p is o b h.0 h.1) (rest_goes p is os h.0 b' h.2)

    -- ## Where a response was met

    -- the lock's call ends with the code though a response of its range was met: memory was wanting, or a range with its version was ended before
    pub lost_met : (slot : ℕ) (w : Parts) (call : Asked) (u : View Asked) (word : ℕ) (b : Books) (f : Frame) → GotLock slot u b.view word w call → position (is_for slot w) b.early ≡ None → is_for slot w f ≡ true → IsMet f b → (b.starved ≡ true) ⊎ HasEnded f b.view
    lost_met slot w call u word b f got none_ is (by_end h) = inr h
    lost_met slot w call u word b f got none_ is (by_keeping n at) = absurd (unkept (is_for slot w) b.early n f none_ at is)
    lost_met slot w call u word b f got none_ is (by_passing other found past) =
        let a = for_is slot w f is in let c = got.latest other (subst (λ (i : ℕ). Found i other b.view) a.0 found) in absurd (let d = a.1 in omega (arith, c, d, past))
    lost_met slot w call u word b f got none_ is (by_want s) = inl s

    -- and the same where the code waits in the queue of an id
    pub queued_met : (v : View Asked) (w word : ℕ) (b : Books) (f : Frame) → FoundUpTo (id_slot (call_at w)) (id_first (call_at w)) b.view → (parts word).first ≡ id_first (call_at w) → position (is_for (id_slot (call_at w)) (parts word)) b.early ≡ None → is_for (id_slot (call_at w)) (parts word) f ≡ true → IsMet f b → (b.starved ≡ true) ⊎ HasEnded f b.view
    queued_met v w word b f latest first none_ is (by_end h) = inr h
    queued_met v w word b f latest first none_ is (by_keeping n at) = absurd (unkept (is_for (id_slot (call_at w)) (parts word)) b.early n f none_ at is)
    queued_met v w word b f latest first none_ is (by_passing other found past) =
        let a = for_is (id_slot (call_at w)) (parts word) f is in let c = latest other (subst (λ (i : ℕ). Found i other b.view) a.0 found) in absurd (let d = a.1 in omega (arith, c, d, past, first))
    queued_met v w word b f latest first none_ is (by_want s) = inl s
