-- The unlocking exchanges of one call, one after another.
use Rattle.std.proofs.Common.{◌≡◌, ◌≢◌, ℕ, ◌+◌, ◌<◌, ◌≤◌, Bool, true, false, IsTrue, cond, eqb, eq-eqb, ne_eqb, List, [], ◌∷◌, ◌++◌, sym, refl, ap, ◌∙◌, subst, arith}
use Rattle.std.specs.Prelude.{Option as Maybe}
use Rattle.corr_core.specs.IdSlotWord.{Parts, parts, unlocked_word}
use Rattle.corr_core.specs.declared.marks.Hand.TheVariants.{Empty, Full}
use Rattle.corr_core.specs.declared.marks.Token.TheVariants.{Locked}
use Rattle.corr_core.specs.declared.marks.Note.TheVariants.{Attempt, Saw}
use Rattle.corr_core.specs.declared.marks.Token.{Token}
use Rattle.corr_core.specs.declared.marks.Note.{Note}
use Rattle.corr_core.specs.declared.marks.Noted.{Noted}
use Rattle.corr_core.specs.declared.marks.View.{View}
use Rattle.id_rule.specs.LawfulIdTable.{tokens_in, notes_of, with_note}
use Rattle.id_rule.specs.IdPlays.{LockFits, Longer}
use Rattle.corr_id.specs.SeatBehindIdCalls.{Became, Did, Locks, one, events, is_saw, advance_note, tokens_left, error_in}
use Rattle.corr_id.specs.PostAnswers.{IsTimely}
use Rattle.corr_id.specs.Unlocks.{stale, Follows, FoundJust, Before, Stepped, Replaced}
use Rattle.corr_core.specs.IdSlotLaw.{only}
use Rattle.corr_id.proofs.IdSeatSplits.{notes_append, total_append}
use Rattle.corr_id.proofs.SlotBehindViewChange.{became_note}
use Rattle.corr_id.proofs.TokensOfIdCalls.{quiet_none, did_none, did_more, found_noted, found_grows, became_grows}
use Rattle.sock_words.specs.PackedWords.{bit}
use Rattle.sock_words.specs.Totals.{total}

-- the word of a lock itself
longer_same : (p : Parts) → p.state ≡ 2 → (p.oldest ≡ 0 → p.second ≡ 0) → Longer p.first p.range p.attempt p.oldest p.second p
longer_same p two order = record { first_is = refl; state_is = two; range_is = refl; attempt_is = refl; begins = ((λ n. refl), (λ n. refl), order) }

longer_more : (f rg at o s : ℕ) (m q : Parts) → Longer f rg at o s m → Longer m.first m.range m.attempt m.oldest m.second q → Longer f rg at o s q
longer_more f rg at o s m q a b = record {
  first_is = a.first_is ∙ b.first_is;
  state_is = b.state_is;
  range_is = a.range_is ∙ b.range_is;
  attempt_is = a.attempt_is ∙ b.attempt_is;
  begins = (
    (λ n. b.begins.0 (λ z. n (sym (a.begins.0 n) ∙ z)) ∙ a.begins.0 n),
    (λ n. b.begins.1 (λ z. n (sym (a.begins.1 n) ∙ z)) ∙ a.begins.1 n),
    b.begins.2,
  );
}

follows_more : (p : Parts) (now : ℕ) (xs : List ℕ) (m q : Parts) → Follows p now xs m → Longer m.first m.range m.attempt m.oldest m.second q → Follows p now xs q
follows_more p now [] m q a b = longer_more p.first p.range p.attempt p.oldest p.second m q a b
follows_more p now (x ∷ xs) m q a b = longer_more (parts x).first (parts x).range now (parts x).second 0 m q a b

-- what an exchange leaves that took an error out
follows_popped : (m q : Parts) (now more : ℕ) → q ≡ unlocked_word m more → m.oldest ≢ 0 → q.attempt ≡ now → Longer m.first m.range now m.second 0 q
follows_popped m q now more is nz at = record {
  first_is = sym (ap (λ (y : Parts). y.first) is);
  state_is = ap (λ (y : Parts). y.state) is ∙ ap (λ y. cond y 1 2) (ne_eqb m.oldest 0 nz);
  range_is = sym (ap (λ (y : Parts). y.range) is);
  attempt_is = sym at;
  begins = ((λ n. ap (λ (y : Parts). y.oldest) is), (λ n. absurd (n refl)), (λ z. ap (λ (y : Parts). y.second) is));
}

-- an advance is no word that was found
advance_unfound : (C : Type 0) (i x : ℕ) (p q : Parts) → total (is_saw {C = C} x) (notes_of i (advance_note {C = C} i p q)) ≡ 0
advance_unfound C i x p q = let a : Note C = Attempt p.first q.attempt in elim (eqb p.attempt q.attempt) as (λ b. total (is_saw {C = C} x) (notes_of i (cond b [] (one {C = C} i a))) ≡ 0)
    [ true ↦ refl | false ↦ ap (λ b. total (is_saw {C = C} x) (cond b (a ∷ []) [])) (eq-eqb i i refl) ]

module _ {C : Type 0} where
  -- one word more that is found by an exchange
  exchange_found : (i x n : ℕ) (v w : View C) (ts : List (Token C)) (p q : Parts) → Became i (with_note i (Saw n) v) w ts (advance_note i p q) → total (is_saw x) (notes_of i w.notes) ≡ only x n + total (is_saw x) (notes_of i v.notes)
  exchange_found i x n v w ts p q b = let noted : View C = with_note i (Saw n) v in
      let e = ap (λ l. total (is_saw x) (notes_of i l)) b.notes in let f = ap (total (is_saw x)) (notes_append i (advance_note i p q) noted.notes) in
      let g = ap (λ y. total (is_saw x) (cond y (Saw n ∷ notes_of i v.notes) (notes_of i v.notes))) (eq-eqb i i refl) in
      omega (arith, e, f, g, total_append (is_saw x) (notes_of i (advance_note i p q)) (notes_of i noted.notes), advance_unfound C i x p q)

  none_found : (i x : ℕ) (v w : View C) (ts : List (Token C)) → Became i v w ts [] → total (is_saw x) (notes_of i w.notes) ≡ total (is_saw x) (notes_of i v.notes)
  none_found i x v w ts b = ap (λ l. total (is_saw x) (notes_of i l)) b.notes

  note_none : (i : ℕ) (p q : Parts) → p.attempt ≡ q.attempt → advance_note {C = C} i p q ≡ []
  note_none i p q e = ap (λ b. cond b [] (one i (Attempt p.first q.attempt))) (eq-eqb p.attempt q.attempt e)

  note_events : (i : ℕ) (p q : Parts) → events (advance_note {C = C} i p q) ≡ advance_note i p q
  note_events i p q = elim (eqb p.attempt q.attempt) as (λ b. events (cond b [] (one {C = C} i (Attempt p.first q.attempt))) ≡ cond b [] (one i (Attempt p.first q.attempt))) [ true ↦ refl | false ↦ refl ]

  joined_notes : (i : ℕ) (p m q : Parts) (step : Bool) → m.first ≡ p.first → (IsTrue step → m.attempt ≡ p.attempt) → q.attempt ≡ m.attempt + bit step → events (advance_note {C = C} i m q) ++ advance_note i p m ≡ advance_note i p q
  joined_notes i p m q true ff pend at = let e : m.attempt ≡ p.attempt = pend refl in
      (λ z. note_events i m q z ++ note_none i p m (sym e) z) ∙ (end (advance_note i m q) ∙ λ z. cond (eqb (e z) q.attempt) [] (one i (Attempt (ff z) q.attempt)))
    where
      end : (l : List (Noted C)) → l ++ [] ≡ l
      end [] = refl
      end (x ∷ xs) = ap (λ y. x ∷ y) (end xs)
  joined_notes i p m q false ff pend at = let e : m.attempt ≡ q.attempt = omega arith in
      (λ z. events (note_none i m q e z) ++ advance_note i p m) ∙ λ z. cond (eqb p.attempt (e z)) [] (one i (Attempt p.first (e z)))

  module _ (u : View C) (slot : ℕ) (p : Parts) (c : C) (advance : Bool) where
    pub stepped_first : (w : View C) → p.state ≡ 2 → LockFits p → (p.oldest ≡ 0 → p.second ≡ 0) → (IsTrue advance → p.attempt + 2 < p.range) → Became slot u w (Locked p.first p.range p.attempt c p.oldest p.second (Full c) ∷ []) [] → Stepped u w slot p c advance p advance
    stepped_first w two fits order room b = record {
      first_is = refl;
      two = two;
      fits = fits;
      attempt_is = refl;
      pending = λ z. refl;
      room = room;
      in_order = order;
      did = subst (Did slot u w (Locked p.first p.range p.attempt c p.oldest p.second (Full c) ∷ [])) (sym (note_none slot p p refl)) (did_more slot u u w (tokens_in slot u) (Locked p.first p.range p.attempt c p.oldest p.second (Full c) ∷ []) [] [] (did_none slot u u (quiet_none u)) b);
    }

    pub before_first : (w : View C) (ts : List (Token C)) → p.state ≡ 2 → (p.oldest ≡ 0 → p.second ≡ 0) → Became slot u w ts [] → Before u w slot p c advance p
    before_first w ts two order b = record { words = []; found = λ x. let k = none_found slot x u w ts b in omega (arith, k); sequence = tt; thrown = tt; follows = longer_same p two order }

    pub before_lost : (v w : View C) (ts : List (Token C)) (m q : Parts) → Before u v slot p c advance m → Longer m.first m.range m.attempt m.oldest m.second q → Became slot v w ts [] → Before u w slot p c advance q
    before_lost v w ts m q h l b = record {
      words = h.words;
      found = λ x. let k = none_found slot x v w ts b in let e = h.found x in omega (arith, k, e);
      sequence = h.sequence;
      thrown = h.thrown;
      follows = follows_more p (p.attempt + bit advance) h.words m q h.follows l;
    }

    -- an exchange that found another word, which has more errors
    pub stepped_lost : (v w : View C) (m q : Parts) (step : Bool) → Stepped u v slot p c advance m step → q.first ≡ m.first → q.state ≡ 2 → q.range ≡ m.range → q.attempt ≡ m.attempt → (q.oldest ≡ 0 → q.second ≡ 0)
        → Became slot v w (Locked q.first q.range q.attempt c q.oldest q.second (Full c) ∷ []) [] → Stepped u w slot p c advance q step
    stepped_lost v w m q step s ff two rr aa order b = let k = s.fits in let low = k.low in let lo = k.range_low in let hi = k.range_high in let room = k.room in let at = s.attempt_is in record {
      first_is = ff ∙ s.first_is;
      two = two;
      fits = record { low = omega arith; range_low = omega arith; range_high = omega arith; room = omega arith };
      attempt_is = omega arith;
      pending = λ z. aa ∙ s.pending z;
      room = λ z. let y = s.room z in omega arith;
      in_order = order;
      did = subst (λ (y : Parts). Did slot u w (Locked q.first q.range q.attempt c q.oldest q.second (Full c) ∷ []) (advance_note slot p y)) (λ k. record { first = m.first; state = m.state; range = m.range; attempt = sym aa k; oldest = m.oldest; second = m.second })
          (did_more slot u v w (Locked m.first m.range m.attempt c m.oldest m.second (Full c) ∷ []) (Locked q.first q.range q.attempt c q.oldest q.second (Full c) ∷ []) (advance_note slot p m) [] s.did b);
    }

    module _ (v w : View C) (n : ℕ) (q : Parts) (step : Bool) (s : Stepped u v slot p c advance (parts n) step) (is : q ≡ unlocked_word (parts n) (bit step)) (b : Became slot (with_note slot (Saw n) v) w (tokens_left (parts n) q c) (advance_note slot (parts n) q)) where
      abbrev m : Parts
      m = parts n

      abbrev noted : View C
      noted = with_note slot (Saw n) v

      attempt_of : q.attempt ≡ m.attempt + bit step
      attempt_of = ap (λ (y : Parts). y.attempt) is

      attempt_now : q.attempt ≡ p.attempt + bit advance
      attempt_now = attempt_of ∙ s.attempt_is

      did_all : Did slot u w (tokens_left m q c) (advance_note slot p q)
      did_all = subst (Did slot u w (tokens_left m q c)) (joined_notes slot p m q step s.first_is s.pending attempt_of)
          (did_more slot u noted w (tokens_in slot v) (tokens_left m q c) (advance_note slot p m) (advance_note slot m q)
          (did_more slot u v noted (Locked m.first m.range m.attempt c m.oldest m.second (Full c) ∷ []) (tokens_in slot v) (advance_note slot p m) (one slot (Saw n)) s.did (became_note slot v (Saw n))) b)

      found_more : (words : List ℕ) → FoundJust u v slot p c advance words → FoundJust u w slot p c advance (n ∷ words)
      found_more words found x = let e = exchange_found slot x n v w (tokens_left m q c) m q b in let k = found x in omega (arith, e, k)

      pub before_next : Before u v slot p c advance m → m.oldest ≢ 0 → stale q.attempt m.oldest ≡ 1 → Before u w slot p c advance q
      before_next h nz old = record {
        words = n ∷ h.words;
        found = found_more h.words h.found;
        sequence = (h.follows, h.sequence);
        thrown = (subst (λ (y : ℕ). stale y m.oldest ≡ 1) attempt_now old, h.thrown);
        follows = follows_popped m q (p.attempt + bit advance) (bit step) is nz attempt_now;
      }

      pub replaced : Before u v slot p c advance m → Replaced u w slot p c advance n q
      replaced h = record {
        was_found = found_grows slot n noted w (became_grows slot noted w (tokens_left m q c) (advance_note slot m q) b) (found_noted slot n v noted (became_note slot v (Saw n)));
        same_id = s.first_is;
        was_locked = s.two;
        left = (step, is);
        attempt_is = attempt_now;
        before = h.words;
        taken = found_more h.words h.found;
        sequence = (h.follows, h.sequence);
        thrown = h.thrown;
      }

      pub opened_all : m.oldest ≡ 0 → Did slot u w [] (advance_note slot p q)
      opened_all z = subst (λ ts. Did slot u w ts (advance_note slot p q)) (ap (λ y. cond y [] (Locked q.first q.range q.attempt c q.oldest q.second (Full c) ∷ [])) (eq-eqb m.oldest 0 z)) did_all

      fits_now : (st : Bool) → q.attempt ≡ m.attempt + bit st → (IsTrue st → m.attempt + 2 < m.range) → LockFits q
      fits_now st at room = let f = ap (λ (y : Parts). y.first) is in let r = ap (λ (y : Parts). y.range) is in let k = s.fits in let a = k.low in let d = k.range_low in let e = k.range_high in
          record { low = omega arith; range_low = omega arith; range_high = omega arith; room = roomy st at room }
        where
          roomy : (st : Bool) → q.attempt ≡ m.attempt + bit st → (IsTrue st → m.attempt + 2 < m.range) → q.attempt + 2 ≤ q.range
          roomy true at room = let k : m.attempt + 2 < m.range = room refl in let r = ap (λ (y : Parts). y.range) is in omega arith
          roomy false at room = let k = s.fits.room in let r = ap (λ (y : Parts). y.range) is in omega arith

      pub stepped_next : m.oldest ≢ 0 → Stepped u w slot p c advance q false
      stepped_next nz = record {
        first_is = ap (λ (y : Parts). y.first) is ∙ s.first_is;
        two = ap (λ (y : Parts). y.state) is ∙ ap (λ y. cond y 1 2) (ne_eqb m.oldest 0 nz);
        fits = fits_now step attempt_of s.room;
        attempt_is = let a = attempt_now in omega arith;
        pending = λ z. absurd (no z);
        room = λ z. absurd (no z);
        in_order = λ z. ap (λ (y : Parts). y.second) is;
        did = subst (λ ts. Did slot u w ts (advance_note slot p q)) (ap (λ y. cond y [] (Locked q.first q.range q.attempt c q.oldest q.second (Full c) ∷ [])) (ne_eqb m.oldest 0 nz)) did_all;
      }
        where
          no : IsTrue false → ⊥
          no z = let k : false ≡ true = z in cc

      -- K2 after it
      pub next_answer : (x : View C) (k : Parts) (j : ℕ) (d : C) (code : ℕ) (attempt : Maybe ℕ) → Before u v slot p c advance m → m.oldest ≢ 0 → Became slot w x (Locked q.first q.range q.attempt c q.oldest q.second Empty ∷ []) [] → j ≡ slot → k ≡ q → d ≡ c → m.oldest ≡ error_in code attempt → IsTimely attempt q.attempt
          → (j ≡ slot) × (d ≡ c) × Locks slot x k c Empty × Did slot u x (tokens_in slot x) (advance_note slot p k) × ((found : ℕ) × Replaced u x slot p c advance found k × ((parts found).oldest ≡ error_in code attempt) × IsTimely attempt k.attempt)
      next_answer x k j d code attempt before nz t jj kk dd error now = let after = stepped_next nz in
          let did = did_more slot u w x (Locked q.first q.range q.attempt c q.oldest q.second (Full c) ∷ []) (Locked q.first q.range q.attempt c q.oldest q.second Empty ∷ []) (advance_note slot p q) [] after.did t in
          let r = replaced before in (
            jj,
            dd,
            subst (λ (y : Parts). Locks slot x y c Empty) (sym kk) t.tokens,
            subst (λ (y : Parts). Did slot u x (tokens_in slot x) (advance_note slot p y)) (sym kk) record { tokens = refl; others = did.others; added = did.added; grows = did.grows; kept = did.kept; share = did.share },
            (
              n,
              subst (λ (y : Parts). Replaced u x slot p c advance n y) (sym kk) record { was_found = found_grows slot n w x (became_grows slot w x (Locked q.first q.range q.attempt c q.oldest q.second Empty ∷ []) [] t) r.was_found; same_id = r.same_id; was_locked = r.was_locked; left = r.left; attempt_is = r.attempt_is; before = r.before; taken = λ y. let e = none_found slot y w x (Locked q.first q.range q.attempt c q.oldest q.second Empty ∷ []) t in let f = r.taken y in omega (arith, e, f); sequence = r.sequence; thrown = r.thrown },
              error,
              subst (λ (y : Parts). IsTimely attempt y.attempt) (sym kk) now,
            ),
          )
