-- The last attempt of a call: the greatest to which its id advanced.
use Rattle.std.proofs.Common.{◌≡◌, ℕ, zero, suc, ◌+◌, ◌<◌, ◌≤◌, ◌⊎◌, inl, inr, Bool, true, false, cond, eqb, eq-eqb, ne_eqb, max, List, [], ◌∷◌, refl, sym, ap, ◌∙◌, arith}
use Rattle.std.proofs.Math.Nat.{le-max_left, le-max_right}
use mathlib.Core.Logic.{dite}
use native.Mathlib.Decide.{ℕ_discrete, dec_lt}
use Rattle.corr_core.specs.IdSlotLaw.{pair, is_advance, is_attempt}
use Rattle.corr_core.specs.declared.marks.Note.{Note}
use Rattle.corr_core.specs.declared.marks.Note.TheVariants.{Attempt}
use Rattle.corr_core.specs.declared.marks.Noted.{Noted}
use Rattle.corr_core.proofs.NoteSums.{only_le, only-else, pair-same, pair-at, pair-else, pair-else_first}
use Rattle.id_rule.specs.LawfulIdTable.{notes_of}
use Rattle.sock_message.specs.Asked.{Asked}
use Rattle.call_whys.specs.call_told.specs.Least.{is_made_for}
use Rattle.call_whys.specs.call_places.proofs.NoteWeights.{term, each_less, all_zero, total_sum}
use Rattle.attempts_told.specs.CountedAttempts.{advanced_to, last_among}
use Rattle.sock_words.specs.Totals.{total}

attempt_is : (f n : ℕ) (y : Note Asked) → 0 < is_attempt f n y → y ≡ Attempt f n
attempt_is f n (Attempt g m) h = dite (ℕ_discrete g f)
    (λ e. dite (ℕ_discrete m n) (λ d. (λ i. Attempt (e i) (d i))) (λ ne. absurd (let k = pair-else f n g m ne in omega arith)))
    (λ ne. absurd (let k = pair-else_first f n g m ne in omega arith))
attempt_is f n _ h = absurd (omega arith)

-- what is counted behind another note
behind : (i : ℕ) (f : Note Asked → ℕ) (x : Noted Asked) (xs : List (Noted Asked)) → total f (notes_of i xs) ≤ total f (notes_of i (x ∷ xs))
behind i f x xs = elim (eqb x.slot i) as (λ b. total f (notes_of i xs) ≤ total f (cond b (x.note ∷ notes_of i xs) (notes_of i xs))) [ true ↦ omega arith | false ↦ omega arith ]

module _ (o : ℕ) (all : List (Noted Asked)) where
  -- an id of the operation's call advanced to n, by one of these notes
  pub record IsReached (ns : List (Noted Asked)) (n : ℕ) : Type 0 where
    pub slot : ℕ
    pub first : ℕ
    pub made : 0 < total (is_made_for first o) (notes_of slot all)
    pub noted : 0 < total (is_attempt first n) (notes_of slot ns)

  abbrev by : Noted Asked → ℕ
  by x = advanced_to o (notes_of x.slot all) x.note

  -- a note of such an advance
  counts : (f n : ℕ) (x : Noted Asked) (slot : ℕ) → x.slot ≡ slot → x.note ≡ Attempt f n → 0 < total (is_made_for f o) (notes_of slot all) → by x ≡ n
  counts f n x slot s y made = (λ i. advanced_to o (notes_of (s i) all) (y i)) ∙ ap (λ (b : Bool). cond b 0 n) (ne_eqb (total (is_made_for f o) (notes_of slot all)) 0 (λ z. omega (arith, z, made)))

  counted_by : (slot : ℕ) (y : Note Asked) → 0 < advanced_to o (notes_of slot all) y → (f : ℕ) × (y ≡ Attempt f (advanced_to o (notes_of slot all) y)) × (0 < total (is_made_for f o) (notes_of slot all))
  counted_by slot (Attempt f m) h =
      let made : ℕ = total (is_made_for f o) (notes_of slot all) in
      dite (ℕ_discrete made 0)
      (λ z. absurd (let e : cond (eqb made 0) 0 m ≡ 0 = ap (λ (b : Bool). cond b 0 m) (eq-eqb made 0 z) in omega arith))
      (λ ne. (f, ap (Attempt f) (sym (ap (λ (b : Bool). cond b 0 m) (ne_eqb made 0 ne))), omega arith))
  counted_by slot _ h = absurd (omega arith)

  -- none of these advances goes further
  pub none_further : (slot f n : ℕ) (ns : List (Noted Asked)) → 0 < total (is_made_for f o) (notes_of slot all) → 0 < total (is_attempt f n) (notes_of slot ns) → n ≤ last_among o all ns
  none_further slot f n [] made some_ = absurd (omega arith)
  none_further slot f n (x ∷ xs) made some_ =
      let left = le-max_left (by x) (last_among o all xs) in
      let right = le-max_right (by x) (last_among o all xs) in
      dite (ℕ_discrete (total (is_attempt f n) (notes_of slot xs)) 0)
      (λ z. (let w = first_one z in let e = counts f n x slot w.0 w.1 made in omega arith))
      (λ ne. (let a = none_further slot f n xs made (omega arith) in omega arith))
    where
      by_slot : total (is_attempt f n) (notes_of slot xs) ≡ 0 → (b : Bool) → 0 < total (is_attempt f n) (cond b (x.note ∷ notes_of slot xs) (notes_of slot xs)) → (b ≡ true) × (x.note ≡ Attempt f n)
      by_slot z true h = (refl, attempt_is f n x.note (omega arith))
      by_slot z false h = absurd (omega arith)

      is_slot : eqb x.slot slot ≡ true → x.slot ≡ slot
      is_slot t = dite (ℕ_discrete x.slot slot) (λ e. e) (λ ne. absurd (let f_ = sym (ne_eqb x.slot slot ne) ∙ t in cc))

      first_one : total (is_attempt f n) (notes_of slot xs) ≡ 0 → (x.slot ≡ slot) × (x.note ≡ Attempt f n)
      first_one z = let w = by_slot z (eqb x.slot slot) some_ in (is_slot w.0, w.1)

  reached_behind : (x : Noted Asked) (xs : List (Noted Asked)) (m n : ℕ) → m ≡ n → IsReached xs m → IsReached (x ∷ xs) n
  reached_behind x xs m n e r = record { slot = r.slot; first = r.first; made = r.made; noted = (let a = behind r.slot (is_attempt r.first m) x xs in let b = r.noted in let c = ap (λ y. total (is_attempt r.first y) (notes_of r.slot (x ∷ xs))) e in omega arith) }

  reached_here : (x : Noted Asked) (xs : List (Noted Asked)) (n : ℕ) → by x ≡ n → 0 < n → IsReached (x ∷ xs) n
  reached_here x xs n e some_ =
      let w = counted_by x.slot x.note (omega arith) in
      let y : x.note ≡ Attempt w.0 n = w.1 ∙ ap (Attempt w.0) e in
      record {
        slot = x.slot;
        first = w.0;
        made = w.2;
        noted = (
            let a = ap (λ (b : Bool). total (is_attempt w.0 n) (cond b (x.note ∷ notes_of x.slot xs) (notes_of x.slot xs))) (eq-eqb x.slot x.slot refl) in
            let c = ap (is_attempt w.0 n) y in let d = pair-same w.0 n in omega arith
            );
      }

  -- one of them goes so far
  pub one_reached : (ns : List (Noted Asked)) → (last_among o all ns ≡ 0) ⊎ IsReached ns (last_among o all ns)
  one_reached [] = inl refl
  one_reached (x ∷ xs) = dite (dec_lt (last_among o all xs) (by x))
      (λ lt. inr (reached_here x xs (max (by x) (last_among o all xs)) (omega arith) (omega arith)))
      (λ ge. elim (one_reached xs) [ inl z ↦ inl (omega arith) | inr r ↦ inr (reached_behind x xs (last_among o all xs) (max (by x) (last_among o all xs)) (omega arith) r) ])

-- ## How many advances there are

-- over the numbers from 1 to m
sum_to : (ℕ → ℕ) → ℕ → ℕ
sum_to h zero = 0
sum_to h (suc m) = sum_to h m + h (suc m)

sum_few : (h : ℕ → ℕ) (m : ℕ) → ((n : ℕ) → h n ≤ 1) → sum_to h m ≤ m
unfolding sum_to
sum_few h zero once = omega arith
sum_few h (suc m) once = let a = sum_few h m once in let b = once (suc m) in omega arith

in_sum : (f n m : ℕ) → 0 < n → n ≤ m → 1 ≤ sum_to (λ k. pair f k f n) m
unfolding sum_to
in_sum f n zero some_ low = absurd (omega arith)
in_sum f n (suc m) some_ low = dite (ℕ_discrete n (suc m))
    (λ e. let a = pair-at f (suc m) f n refl e in omega arith)
    (λ ne. let a = in_sum f n m some_ (omega arith) in omega arith)

each_sum : (f m : ℕ) (ns : List (Note Asked)) → total (λ (x : Note Asked). sum_to (λ k. is_attempt f k x) m) ns ≡ sum_to (λ k. total (is_attempt f k) ns) m
unfolding sum_to
each_sum f zero ns = all_zero (λ (x : Note Asked). sum_to (λ k. is_attempt f k x) zero) ns (λ i x e. refl)
each_sum f (suc m) ns = let a = each_sum f m ns in let b = total_sum (λ (x : Note Asked). sum_to (λ k. is_attempt f k x) m) (is_attempt f (suc m)) ns in omega arith

one_sum : (f m : ℕ) (x : Note Asked) → ((n : ℕ) → 0 < is_attempt f n x → (0 < n) × (n ≤ m)) → is_advance f x ≤ sum_to (λ k. is_attempt f k x) m
one_sum f m (Attempt g n) h = dite (ℕ_discrete g f)
    (λ e.
    let one = pair-at f n g n e refl in
    let low = h n (omega arith) in
    let a = in_sum f n m low.0 low.1 in
    let same : sum_to (λ k. pair f k g n) m ≡ sum_to (λ k. pair f k f n) m = ap (λ (y : ℕ). sum_to (λ k. pair f k y n) m) e in
    let b = only_le f g in omega arith)
    (λ ne. let a = only-else f g ne in omega arith)
one_sum f m _ h = omega arith

-- no more than their numbers, of which none comes twice
pub few_advances : (f m : ℕ) (ns : List (Note Asked)) → ((n : ℕ) → 0 < total (is_attempt f n) ns → (0 < n) × (n ≤ m)) → ((n : ℕ) → total (is_attempt f n) ns ≤ 1) → total (is_advance f) ns ≤ m
few_advances f m ns low once =
    let a = each_less (is_advance f) (λ (x : Note Asked). sum_to (λ k. is_attempt f k x) m) ns (λ i x at. one_sum f m x (λ n some_. low n (let t = term (is_attempt f n) ns i x at in omega arith))) in
    let b = each_sum f m ns in
    let c = sum_few (λ k. total (is_attempt f k) ns) m once in omega arith
