-- What the rule says of the one seat that is left.
use Rattle.std.proofs.Common.{◌≡◌, ℕ, zero, suc, ◌+◌, ◌*◌, ◌<◌, ◌≤◌, List, [], ◌∷◌, ◌++◌, get_or, append-nil, sym, refl, ap, ◌∙◌, subst, lt_of_not-le, arith}
use Rattle.std.specs.Prelude.{Option as Maybe}
use Rattle.std.specs.List.{flat_map}
use mathlib.Core.Logic.{dite}
use mathlib.Core.Option.{some, some-injective, some-ne-none}
use native.Mathlib.Decide.{ℕ_discrete, dec_le}
use lib.ListN.{get_elem?}
use Rattle.atomic_table.specs.Table.{State}
use Rattle.corr_core.specs.IdSlotWord.{parts}
use Rattle.corr_core.specs.IdSlotLaw.{Each, born, is_made, is_ended, is_ended_at, is_attempt, is_tried, is_any_made, is_claim, SawFits, NoteFits, SlotLaw}
use Rattle.corr_core.specs.declared.marks.Plan.{Plan}
use Rattle.corr_core.specs.declared.marks.Note.{Note}
use Rattle.corr_core.specs.declared.marks.Note.TheVariants.{Made, Locker, Attempt, Saw}
use Rattle.corr_core.specs.declared.marks.Kept.{Kept}
use Rattle.corr_core.specs.declared.marks.View.{View}
use Rattle.corr_core.proofs.NoteSums.{each_at, total_some, only-else, pair-else, pair-else_first}
use Rattle.corr_core.proofs.SlotRangeStories.{born_le}
use Rattle.corr_core.specs.IdTableLayout.{id_index}
use Rattle.id_rule.specs.LawfulIdTable.{KeptFits, kept_in, is_stored, tokens_of, notes_of, tokens_in, notes_in, share_of, local, IsBare, Lawful}
use Rattle.corr_id.specs.SeatBehindIdCalls.{is_saw}
use Rattle.corr_id.specs.Ruled.{Known}
use Rattle.corr_id.specs.ClosingIdLists.{Closing}
use Rattle.sock_words.specs.Totals.{total}

pub term : {V : Type 0} (g : V → ℕ) (vs : List V) (i : ℕ) (v : V) → get_elem? vs i ≡ some v → g v ≤ total g vs
term g [] i v e = absurd (some-ne-none v (sym e))
term g (x ∷ xs) zero v e = let a = ap g (some-injective x v e) in omega arith
term g (x ∷ xs) (suc i) v e = let a : g v ≤ total g xs = term g xs i v e in omega arith

two_terms : {V : Type 0} (g : V → ℕ) (vs : List V) (i j : ℕ) (v u : V) → get_elem? vs i ≡ some v → get_elem? vs j ≡ some u → ¬ (j ≡ i) → g v + g u ≤ total g vs
two_terms g [] i j v u e f ne = absurd (some-ne-none v (sym e))
two_terms g (x ∷ xs) zero zero v u e f ne = absurd (ne refl)
two_terms g (x ∷ xs) zero (suc j) v u e f ne = let a = ap g (some-injective x v e) in let b = term g xs j u f in omega arith
two_terms g (x ∷ xs) (suc i) zero v u e f ne = let a = ap g (some-injective x u f) in let b = term g xs i v e in omega arith
two_terms g (x ∷ xs) (suc i) (suc j) v u e f ne = let a = two_terms g xs i j v u e f (λ q. ne (ap suc q)) in omega arith

-- no other has any
all_nil : {V A : Type 0} (f : V → List A) (vs : List V) → ((j : ℕ) (u : V) → get_elem? vs j ≡ some u → f u ≡ []) → flat_map f vs ≡ []
all_nil f [] h = refl
all_nil f (x ∷ xs) h = (λ z. h zero x refl z ++ all_nil f xs (λ j u e. h (suc j) u e) z)

only_one : {V A : Type 0} (f : V → List A) (vs : List V) (i : ℕ) (v : V) → get_elem? vs i ≡ some v → ((j : ℕ) (u : V) → get_elem? vs j ≡ some u → ¬ (j ≡ i) → f u ≡ []) → flat_map f vs ≡ f v
only_one f [] i v e h = absurd (some-ne-none v (sym e))
only_one f (x ∷ xs) zero v e h = (λ z. f (some-injective x v e z) ++ all_nil f xs (λ j u g. h (suc j) u g (λ q. omega arith)) z) ∙ append-nil (f v)
only_one f (x ∷ xs) (suc i) v e h = (λ z. h zero x refl (λ q. omega arith) z ++ only_one f xs i v e (λ j u g n. h (suc j) u g (λ q. n (omega arith))) z)

pub saw_of : {C : Type 0} (w : ℕ) (n : Note C) → 0 < is_saw w n → n ≡ Saw w
saw_of w (Saw x) h = dite (ℕ_discrete x w) (λ e. ap Saw e) (λ n. let k = only-else w x n in absurd (omega arith))
saw_of w _ h = absurd (omega arith)

made_of : {C : Type 0} (f : ℕ) (n : Note C) → 0 < is_made f n → (r : ℕ) × (c : C) × (n ≡ Made f r c)
made_of f (Made g r c) h = dite (ℕ_discrete g f) (λ e. (r, c, ap (λ y. Made y r c) e)) (λ n. let k = only-else f g n in absurd (omega arith))
made_of f _ h = absurd (omega arith)

attempt_of : {C : Type 0} (f m : ℕ) (n : Note C) → 0 < is_attempt f m n → n ≡ Attempt f m
attempt_of f m (Attempt g n) h = dite (ℕ_discrete g f)
    (λ e. dite (ℕ_discrete n m) (λ d. λ i. Attempt (e i) (d i)) (λ d. let k = pair-else f m g n d in absurd (omega arith)))
    (λ e. let k = pair-else_first f m g n e in absurd (omega arith))
attempt_of f m _ h = absurd (omega arith)

made_as : {C : Type 0} (ns : List (Note C)) (j f : ℕ) (x y : ℕ × C) → x ≡ y → get_elem? ns j ≡ some (Made f x.0 x.1) → get_elem? ns j ≡ some (Made f y.0 y.1)
made_as {C} ns j f x y same at = subst (λ (z : ℕ × C). get_elem? ns j ≡ some (Made f z.0 z.1)) same at

module _ {C : Type 0} (p : Plan) (s : State (Maybe C) (View C)) (law : Lawful p s) (id : ℕ) (v : View C) (here : get_elem? s.views id ≡ some v) (all : v.share ≡ p.seats) where
  others : (j : ℕ) (u : View C) → get_elem? s.views j ≡ some u → ¬ (j ≡ id) → IsBare u
  others j u e ne = let a = two_terms share_of s.views id j v u here e ne in let b = law.shares in law.bare j u e (omega arith)

  notes_are : (i : ℕ) → flat_map (notes_in i) s.views ≡ notes_of i v.notes
  notes_are i = only_one (notes_in i) s.views id v here (λ j u e ne. ap (notes_of i) (others j u e ne).no_notes)

  kept_are : flat_map kept_in s.views ≡ v.kept
  kept_are = only_one kept_in s.views id v here (λ j u e ne. (others j u e ne).no_kept)

  module _ (i : ℕ) (il : i < p.slots) where
    o : SlotLaw (local s i)
    o = law.slots i il

    -- a word that was noted
    saw : (w : ℕ) → 0 < total (is_saw w) (notes_of i v.notes) → SawFits o.b (local s i).word.first (notes_of i v.notes) (parts w)
    saw w h = let k = total_some (is_saw w) (notes_of i v.notes) h in let at : get_elem? (notes_of i v.notes) k.0 ≡ some (Saw w) = k.2 ∙ ap some (saw_of w k.1 k.3) in
        subst (λ (ns : List (Note C)). SawFits o.b (local s i).word.first ns (parts w)) (notes_are i)
        (each_at (NoteFits o.b (local s i).word.first (local s i).notes) (local s i).notes k.0 (Saw w) o.story.fits (ap (λ (ns : List (Note C)). get_elem? ns k.0) (notes_are i) ∙ at))

    -- a range that was made was noted, with its length and content
    made_at : (f r : ℕ) (c : C) → o.b f ≡ some (r, c) → (j : ℕ) × (get_elem? (notes_of i v.notes) j ≡ some (Made f r c))
    made_at f r c has =
        let one : born (o.b f) ≡ 1 = ap born has in let m = o.story.made f in
        let found = total_some (is_made f) (local s i).notes (omega arith) in let is = made_of f found.1 found.3 in
        let at : get_elem? (local s i).notes found.0 ≡ some (Made f is.0 is.1) = found.2 ∙ ap some is.2 in
        let fits : o.b f ≡ some (is.0, is.1) = each_at (NoteFits o.b (local s i).word.first (local s i).notes) (local s i).notes found.0 (Made f is.0 is.1) o.story.fits at in
        let same : (is.0, is.1) ≡ (r, c) = some-injective (is.0, is.1) (r, c) (sym fits ∙ has) in
        (found.0, made_as (notes_of i v.notes) found.0 f (is.0, is.1) (r, c) same (sym (ap (λ (ns : List (Note C)). get_elem? ns found.0) (notes_are i)) ∙ at))

    was_made : (f r j : ℕ) (c : C) → get_elem? (notes_of i v.notes) j ≡ some (Made f r c) → o.b f ≡ some (r, c)
    was_made f r j c at = each_at (NoteFits o.b (local s i).word.first (local s i).notes) (local s i).notes j (Made f r c) o.story.fits (ap (λ (ns : List (Note C)). get_elem? ns j) (notes_are i) ∙ at)

    apart : (f g r q j k : ℕ) (c d : C) → get_elem? (notes_of i v.notes) j ≡ some (Made f r c) → get_elem? (notes_of i v.notes) k ≡ some (Made g q d) → f < g → f + r ≤ g
    apart f g r q j k c d at there lt = o.story.apart f g (r, c) (q, d) (was_made f r j c at) (was_made g q k d there) lt

    -- what advanced was made
    advance_made : (f n : ℕ) → 0 < total (is_attempt f n) (notes_of i v.notes) → 0 < total (is_made f) (notes_of i v.notes)
    advance_made f n some_ =
        let k = total_some (is_attempt f n) (notes_of i v.notes) some_ in let at : get_elem? (notes_of i v.notes) k.0 ≡ some (Attempt f n) = k.2 ∙ ap some (attempt_of f n k.1 k.3) in
        let one : born (o.b f) ≡ 1 = each_at (NoteFits o.b (local s i).word.first (local s i).notes) (local s i).notes k.0 (Attempt f n) o.story.fits (ap (λ (ns : List (Note C)). get_elem? ns k.0) (notes_are i) ∙ at) in
        let m = o.story.made f in let same = ap (total (is_made f)) (notes_are i) in omega arith

    -- the content of a lock is the one with which the range was made
    lock_made : (f k : ℕ) (c : C) → get_elem? (notes_of i v.notes) k ≡ some (Locker f c) → (r j : ℕ) × (get_elem? (notes_of i v.notes) j ≡ some (Made f r c))
    lock_made f k c at =
        let there = ap (λ (ns : List (Note C)). get_elem? ns k) (notes_are i) ∙ at in
        let fits : (r : ℕ) × (o.b f ≡ some (r, c)) = each_at (NoteFits o.b (local s i).word.first (local s i).notes) (local s i).notes k (Locker f c) o.story.fits there in
        let m = made_at f fits.0 c fits.1 in (fits.0, m.0, m.1)

    -- a word that was found open or locked
    range_made : (w : ℕ) → 0 < total (is_saw w) (notes_of i v.notes) → 0 < (parts w).state → (c : C) × (j : ℕ) × (get_elem? (notes_of i v.notes) j ≡ some (Made (parts w).first (parts w).range c))
    range_made w e some_state = let t = (saw w e).is_born some_state in let m = made_at (parts w).first (parts w).range t.0 t.1 in (t.0, m.0, m.1)

    count : (g : Note C → ℕ) → total g (local s i).notes ≡ total g (notes_of i v.notes)
    count g = ap (total g) (notes_are i)

    past : (f : ℕ) → f < (local s i).word.first → total (is_ended f) (notes_of i v.notes) ≡ total (is_made f) (notes_of i v.notes)
    past f lt = let a = o.story.ended_past f lt in let b = o.story.made f in let x = count (is_ended f) in let y = count (is_made f) in omega arith

    once : (f : ℕ) → total (is_ended f) (notes_of i v.notes) ≤ 1
    once f = let x = count (is_ended f) in let b = born_le (o.b f) in dite (dec_le (local s i).word.first f) (λ le. let a = o.story.ended_not f le in omega arith) (λ n. let a = o.story.ended_past f (lt_of_not-le n) in omega arith)

    made : (f : ℕ) → total (is_made f) (notes_of i v.notes) ≤ 1
    made f = let x = count (is_made f) in let b = born_le (o.b f) in let a = o.story.made f in omega arith

    not_yet : (f : ℕ) → (local s i).word.first ≤ f → total (is_ended f) (notes_of i v.notes) ≡ 0
    not_yet f le = let x = count (is_ended f) in let a = o.story.ended_not f le in omega arith

  -- no token is left, so a slot that was tried has a range
  pub closing : Known s.views → (ws : List ℕ) → ((i : ℕ) → i < p.slots → get_or ws i 0 ≡ get_or s.words (id_index i) 0) → v.tokens ≡ [] → Closing p v.notes v.kept ws
  closing known ws words idle = record {
    made_once = λ i f il. made i il f;
    ended_once = λ i f il. once i il f;
    one_by_one = λ i f n il some_. let x = count i il (is_attempt f n) in let a = (o i il).story.one_by_one f n (omega arith) in (a.0, λ m p lt. let y = a.1 m p lt in let z = count i il (is_attempt f m) in omega arith);
    advanced_once = λ i f n il. let a = (o i il).story.attempt_once f n in let x = count i il (is_attempt f n) in omega arith;
    ended_at = λ i f n m il e lt. let x = count i il (is_ended_at f n) in let y = count i il (is_attempt f m) in let a = (o i il).story.ended_at f n m (omega arith) lt in omega arith;
    locked_made = λ i f k c il at. lock_made i il f k c at;
    ended_is = λ i f il lt. past i il f (subst (λ (w : ℕ). f < (parts w).first) (words i il) lt);
    ended_not = λ i f il le. not_yet i il f (subst (λ (w : ℕ). (parts w).first ≤ f) (words i il) le);
    later_is = λ i f w il e lt. let a = (saw i il w e).not_later in past i il f (omega arith);
    ranges_apart = λ i f g r q j k c d il at there lt. apart i il f g r q j k c d at there lt;
    advanced_made = λ i f n il e. advance_made i il f n e;
    range_is = λ i w il e z. range_made i il w e z;
    locked_is = λ i w il e z. (saw i il w e).was_locked z;
    oldest_is = λ i w il e z n. (saw i il w e).oldest_by z n;
    second_is = λ i w il e z n. (saw i il w e).second_by z n;
    in_turn = λ i w il e. known.in_turn i w (let a = count i il (is_saw w) in omega (arith, a, e));
    attempts_are = λ i w il e z. (saw i il w e).advanced z;
    full = λ i il z.
        let none_left : flat_map (tokens_in i) s.views ≡ [] = only_one (tokens_in i) s.views id v here (λ j u e ne. ap (tokens_of i) (others j u e ne).no_tokens) ∙ ap (tokens_of i) idle in
        let t = ap (total is_claim) none_left in let x = count i il is_tried in let y = count i il is_any_made in let a = (o i il).used (omega arith) in omega arith;
    found_stored = λ k j e. (subst (λ (ks : List Kept). Each (KeptFits (2 * p.slots) s.words ks) ks → 0 < total (is_stored k.place k.word) ks) (sym kept_are ∙ kept_are)
        (λ h. (each_at (KeptFits (2 * p.slots) s.words v.kept) v.kept j k h e).3)) (subst (λ (ks : List Kept). Each (KeptFits (2 * p.slots) s.words ks) ks) kept_are law.kept_fits);
  }
