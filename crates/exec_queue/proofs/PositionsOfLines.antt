-- Lines that are put at their positions, one after another.
use Rattle.std.proofs.Common.{◌≡◌, ◌≢◌, ℕ, zero, suc, ◌+◌, ◌/◌, ◌^◌, ◌<◌, ◌≤◌, Bool, true, false, nat_le, List, [], ◌∷◌, length, take, get_or, set, max, slice_index_or, refl, sym, ap, ◌∙◌, subst, arith}
use Rattle.std.proofs.lemmas.Bool.Decides.{nat_tests}
use Rattle.std.proofs.lemmas.List.{get_or-set_same, get_or-set_other}
use mathlib.Core.Logic.{dite}
use mathlib.Core.Option.{some, some-injective, some-ne-none}
use native.Mathlib.Decide.{ℕ_discrete}
use lib.ListN.{get_elem?}
use Rattle.brpc_model.specs.PlaceWords.{word_at}
use Rattle.sock_words.specs.declared.place_word.PlaceWord.{PlaceWord}
use Rattle.sock_words.specs.PackedWords.{IsPlaceWord, place_word, place_word_position, place_word_dropped, no_place}
use Rattle.exec_queue.specs.LinesInOrder.{line_word, AreLinesOf}

-- of these lines those up to line n stand at their positions, which are below `accepted`, and of those that weren't dropped below `ran`; and these are no more than they must be
pub record IsPut (words : List PlaceWord) (lines : List ℕ) (kept : ℕ) (order : List ℕ) (n accepted ran : ℕ) : Type 0 where
  pub at : (i line : ℕ) → get_elem? lines i ≡ some line → line ≤ n → (i < accepted) × (get_or order i 0 ≡ line) × (i < kept → i < ran)
  pub most : accepted ≤ length lines
  pub ran_most : ran ≤ kept

abbrev pub PutUpTo : List PlaceWord → List ℕ → List ℕ → ℕ → ℕ → ℕ → Type 0
PutUpTo words old order n accepted ran = (lines : List ℕ) (kept : ℕ) → AreLinesOf words (length old) lines kept → IsPut words lines kept order n accepted ran

-- ## A word

-- as the code reads it
pub word_or : (ws : List PlaceWord) (l : ℕ) (d : PlaceWord) → d.0 ≡ 0 → (slice_index_or ws l d).0 ≡ word_at ws l
word_or [] l d none_ = none_
word_or (w ∷ ws) zero d none_ = refl
word_or (w ∷ ws) (suc l) d none_ = word_or ws l d none_

-- the word of a place tells it
is_place : (dropped : Bool) (i : ℕ) → i < 4294967295 → IsPlaceWord (place_word dropped 0 i) dropped 0 i
is_place true i few =
    let w : ℕ = 9223372036854775808 + suc i in
    let one : w / 2 ^ 63 ≡ 1 = omega (arith, few) in
    record { dropped_is = grind (arith, nat_tests, one); link_is = omega (arith, few); position_is = omega (arith, few); has_position = omega (arith, few) }
is_place false i few =
    let w : ℕ = suc i in
    let one : w / 2 ^ 63 ≡ 0 = omega (arith, few) in
    record { dropped_is = grind (arith, nat_tests, one); link_is = omega (arith, few); position_is = omega (arith, few); has_position = omega (arith, few) }

pub none_not_placed : (dropped : Bool) (i : ℕ) → place_word dropped 0 i ≢ no_place
none_not_placed true i e = absurd (omega arith)
none_not_placed false i e = absurd (omega arith)

pub below : {A : Type 0} (l : List A) (i : ℕ) (a : A) → get_elem? l i ≡ some a → i < length l
below [] i a e = absurd (some-ne-none a (sym e))
below (x ∷ xs) zero a e = omega arith
below (x ∷ xs) (suc i) a e = let h : i < length xs = below xs i a e in omega arith

pub there : {A : Type 0} (l : List A) (i : ℕ) → i < length l → (a : A) × (get_elem? l i ≡ some a)
there [] i h = absurd (omega arith)
there (x ∷ xs) zero h = (x, refl)
there (x ∷ xs) (suc i) h = there xs i (omega arith)

-- ## One more line

module _ (words : List PlaceWord) (old lines : List ℕ) (kept : ℕ) (are : AreLinesOf words (length old) lines kept) (few : length old ≤ 4096) where
  -- a line whose word tells a position
  record Stands (n i : ℕ) : Type 0 where
    at : get_elem? lines i ≡ some (suc n)
    position : place_word_position (line_word words n) ≡ i
    dropped : place_word_dropped (line_word words n) ≡ nat_le kept i

  standing : (n i : ℕ) → get_elem? lines i ≡ some (suc n) → Stands n i
  standing n i at =
      let low = below lines i (suc n) at in
      let long = are.long in
      let is = subst (λ (w : ℕ). IsPlaceWord w (nat_le kept i) 0 i) (sym (are.placed i n at)) (is_place (nat_le kept i) i (omega arith)) in
      record { at = at; position = is.position_is; dropped = is.dropped_is }

  -- a line of these up to n + 1 is one up to n, or n + 1
  module _ (n : ℕ) (order : List ℕ) (accepted ran : ℕ) (put : IsPut words lines kept order n accepted ran) where
    pub step_none : line_word words n ≡ no_place → IsPut words lines kept order (n + 1) accepted ran
    step_none none_ = record {
      at = λ i line at le. dite (ℕ_discrete line (suc n))
          (λ is. absurd (none_not_placed (nat_le kept i) i (sym (are.placed i n (at ∙ ap some is)) ∙ none_)))
          (λ ne. put.at i line at (omega arith));
      most = put.most;
      ran_most = put.ran_most;
    }

    module _ (low : n < length old) (some_ : line_word words n ≢ no_place) (same : length order ≡ length old) (p : ℕ) (p_is : p ≡ place_word_position (line_word words n)) where
      i0 : (i : ℕ) × (get_elem? lines i ≡ some (suc n))
      i0 = are.each n low some_

      own : Stands n i0.0
      own = standing n i0.0 i0.1

      p_own : p ≡ i0.0
      p_own = p_is ∙ own.position

      p_low : p < length lines
      p_low = let h = below lines i0.0 (suc n) i0.1 in let e = p_own in omega arith

      -- and so it is one of the order's
      pub step_inside : p < length old
      step_inside = let h = p_low in let long = are.long in omega arith

      -- where it stands, and where the others do
      placed_one : (i line a r : ℕ) → get_elem? lines i ≡ some line → line ≤ n + 1 → accepted ≤ a → p < a → ran ≤ r → (place_word_dropped (line_word words n) ≡ false → p < r) → (i < a) × (get_or (set order p (n + 1)) i 0 ≡ line) × (i < kept → i < r)
      placed_one i line a r at le more own_a more_r own_r = dite (ℕ_discrete line (suc n)) here other
        where
          here : line ≡ suc n → (i < a) × (get_or (set order p (n + 1)) i 0 ≡ line) × (i < kept → i < r)
          here is =
              let s = standing n i (at ∙ ap some is) in
              let e : i ≡ p = sym s.position ∙ sym p_is in
              let long = are.long in
              let inside : p < length order = (let h = p_low in omega arith) in
              (omega arith, ap (λ (j : ℕ). get_or (set order p (n + 1)) j 0) e ∙ (get_or-set_same order p (n + 1) 0 inside ∙ (let f : n + 1 ≡ line = omega arith in f)), λ lt. (let h = own_r (s.dropped ∙ (let f : nat_le kept i ≡ false = grind (arith, nat_tests) in f)) in omega arith))

          other : line ≢ suc n → (i < a) × (get_or (set order p (n + 1)) i 0 ≡ line) × (i < kept → i < r)
          other ne =
              let b = put.at i line at (omega arith) in
              let apart : i ≢ p = λ e. ne (some-injective line (suc n) (sym at ∙ (ap (get_elem? lines) (e ∙ p_own) ∙ i0.1))) in
              (omega arith, get_or-set_other order p i (n + 1) 0 apart ∙ b.1, λ lt. (let h = b.2 lt in omega arith))

      pub step_kept : place_word_dropped (line_word words n) ≡ false → IsPut words lines kept (set order p (n + 1)) (n + 1) (max accepted (p + 1)) (max ran (p + 1))
      step_kept is = record {
        at = λ i line at le. placed_one i line (max accepted (p + 1)) (max ran (p + 1)) at le (omega arith) (omega arith) (omega arith) (λ _. omega arith);
        most = (let a = put.most in let h = p_low in omega arith);
        ran_most = (let a = put.ran_most in let e = p_own in let t : nat_le kept i0.0 ≡ false = sym own.dropped ∙ is in let h : i0.0 < kept = grind (arith, nat_tests) in omega arith);
      }

      pub step_dropped : place_word_dropped (line_word words n) ≡ true → IsPut words lines kept (set order p (n + 1)) (n + 1) (max accepted (p + 1)) ran
      step_dropped is = record {
        at = λ i line at le. placed_one i line (max accepted (p + 1)) ran at le (omega arith) (omega arith) (omega arith) (λ e. absurd (cc));
        most = (let a = put.most in let h = p_low in omega arith);
        ran_most = put.ran_most;
      }

  -- ## All lines

  module _ (n accepted ran : ℕ) (order : List ℕ) (end : length old ≤ n) (put : IsPut words lines kept order n accepted ran) where
    all_accepted : accepted ≡ length lines
    all_accepted = by_length (length lines) refl put.most
      where
        by_length : (m : ℕ) → m ≡ length lines → accepted ≤ m → accepted ≡ m
        by_length zero is most = omega arith
        by_length (suc m) is most =
            let w = there lines m (omega arith) in
            let c = are.counted m w.0 w.1 in
            let h = (put.at m w.0 w.1 (omega arith)).0 in
            omega arith

    pub all_ran : ran ≡ kept
    all_ran = by_kept kept refl put.ran_most
      where
        by_kept : (m : ℕ) → m ≡ kept → ran ≤ m → ran ≡ m
        by_kept zero is most = omega arith
        by_kept (suc m) is most =
            let few_ = are.few in
            let w = there lines m (omega arith) in
            let c = are.counted m w.0 w.1 in
            let h = (put.at m w.0 w.1 (omega arith)).2 (omega arith) in
            omega arith

    pub all_lines : length order ≡ length old → take accepted order ≡ lines
    all_lines same = let e = all_accepted in let long = are.long in taken lines order accepted e (omega arith) (λ i line at. (let c = are.counted i line at in (put.at i line at (omega arith)).1))
      where
        taken : (ls xs : List ℕ) (m : ℕ) → m ≡ length ls → m ≤ length xs → ((i line : ℕ) → get_elem? ls i ≡ some line → get_or xs i 0 ≡ line) → take m xs ≡ ls
        taken [] xs zero e le at = refl
        taken [] xs (suc m) e le at = absurd (omega arith)
        taken (l ∷ ls) xs zero e le at = absurd (omega arith)
        taken (l ∷ ls) [] (suc m) e le at = absurd (omega arith)
        taken (l ∷ ls) (x ∷ xs) (suc m) e le at = let h : x ≡ l = at 0 l refl in let t = taken ls xs m (omega arith) (omega arith) (λ i line a. at (suc i) line a) in cc
