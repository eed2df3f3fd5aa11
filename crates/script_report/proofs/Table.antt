-- A table of three labels: two stand on link 0, the later of them first, and one on link 1.
use Rattle.std.proofs.Common.{◌≡◌, ◌≢◌, ℕ, zero, suc, ◌+◌, ◌*◌, ◌<◌, ◌⊎◌, inl, inr, ⊎_elim, List, replicate, slice_set, Option, refl, ap, sym, ◌∙◌, subst, arith}
use Rattle.std.specs.Option.{option_map, unwrap_or}
use Rattle.sock_words.specs.declared.place_word.PlaceWord.{PlaceWord}
use Rattle.sock_words.specs.PackedWords.{no_place, HasPosition, place_word_link, place_word_position}
use Rattle.script_report.specs.ReportLines.{label_of}
use Rattle.brpc_model.specs.PlaceWords.{word_at, Tells, ArePlaces}
use Rattle.script_report.specs.OrderRows.{label_at}
use Rattle.script_report.proofs.OrderRows.{same_or_not, same_label, get_other}

record IsTable (words : List PlaceWord) : Type 0 where
  pub others : (n : ℕ) → n ≢ 16 → n ≢ 24 → n ≢ 25 → word_at words n ≡ no_place
  pub first : Tells (word_at words 16) 0 1
  pub second : Tells (word_at words 24) 0 0
  pub third : Tells (word_at words 25) 1 0

abbrev IsOne : ℕ → ℕ → ℕ → Type 0
IsOne n k p = ((n ≡ 16) × (k ≡ 0) × (p ≡ 1)) ⊎ (((n ≡ 24) × (k ≡ 0) × (p ≡ 0)) ⊎ ((n ≡ 25) × (k ≡ 1) × (p ≡ 0)))

same_place : (words : List PlaceWord) (n m k p l q : ℕ) → n ≡ m → Tells (word_at words n) k p → Tells (word_at words m) l q → (n ≡ m) × (k ≡ l) × (p ≡ q)
same_place words n m k p l q e s t = (e, sym s.link_is ∙ (ap (λ (x : ℕ). place_word_link (word_at words x)) e ∙ t.link_is), sym s.position_is ∙ (ap (λ (x : ℕ). place_word_position (word_at words x)) e ∙ t.position_is))

none_told : (w k p : ℕ) → w ≡ no_place → Tells w k p → ⊥
none_told w k p e t = let z : HasPosition no_place = subst HasPosition e t.accepted in omega arith

which : (words : List PlaceWord) → IsTable words → (n k p : ℕ) → Tells (word_at words n) k p → IsOne n k p
which words t n k p s =
    ⊎_elim (λ (e : n ≡ 16). inl (same_place words n 16 k p 0 1 e s t.first)) (λ (a : n ≢ 16).
    ⊎_elim (λ (e : n ≡ 24). inr (inl (same_place words n 24 k p 0 0 e s t.second))) (λ (b : n ≢ 24).
    ⊎_elim (λ (e : n ≡ 25). inr (inr (same_place words n 25 k p 1 0 e s t.third))) (λ (d : n ≢ 25). absurd (none_told (word_at words n) k p (t.others n a b d) s)) (same_or_not n 25)) (same_or_not n 24)) (same_or_not n 16)

one_number : (m n k p : ℕ) → IsOne m k p → IsOne n k p → m ≡ n
one_number m n k p s t = grind arith

not_last : (n k p q : ℕ) → IsOne n k p → q < p → (k ≡ 0) × (q ≡ 0)
not_last n k p q (inl s) low = (s.1, omega (arith, s.2))
not_last n k p q (inr (inl s)) low = absurd (omega (arith, s.2))
not_last n k p q (inr (inr s)) low = absurd (omega (arith, s.2))

are_places : (words : List PlaceWord) → IsTable words → ArePlaces words
are_places words t = record {
  tell = λ n. ⊎_elim (λ (e : n ≡ 16). inr (subst (λ (x : ℕ). HasPosition (word_at words x)) (sym e) t.first.accepted)) (λ (a : n ≢ 16).
      ⊎_elim (λ (e : n ≡ 24). inr (subst (λ (x : ℕ). HasPosition (word_at words x)) (sym e) t.second.accepted)) (λ (b : n ≢ 24).
      ⊎_elim (λ (e : n ≡ 25). inr (subst (λ (x : ℕ). HasPosition (word_at words x)) (sym e) t.third.accepted)) (λ (d : n ≢ 25). inl (t.others n a b d)) (same_or_not n 25)) (same_or_not n 24)) (same_or_not n 16);
  once = λ a b k p s u. sym (same_label a s.attempt) ∙ (ap (λ (n : ℕ). label_of (label_at n)) (one_number (8 * a.operation + a.attempt) (8 * b.operation + b.attempt) k p
      (which words t (8 * a.operation + a.attempt) k p s.told) (which words t (8 * b.operation + b.attempt) k p u.told)) ∙ same_label b u.attempt);
  no_gap = λ a k p q s low. let here = not_last (8 * a.operation + a.attempt) k p q (which words t (8 * a.operation + a.attempt) k p s.told) low in
      (record { operation = 3; attempt = 0 }, record { attempt = omega arith; told = subst (λ (l : ℕ). Tells (word_at words 24) l q) (sym here.0) (subst (λ (x : ℕ). Tells (word_at words 24) 0 x) (sym here.1) t.second) });
}

no_words : (m n : ℕ) → word_at (replicate m (record { 0 = 0 })) n ≡ no_place
no_words zero n = refl
no_words (suc m) zero = refl
no_words (suc m) (suc n) = no_words m n

word_other : (words : List PlaceWord) (i n : ℕ) (w : PlaceWord) → n ≢ i → word_at (slice_set words i w) n ≡ word_at words n
word_other words i n w d = ap (λ (o : Option PlaceWord). unwrap_or (option_map (λ (x : PlaceWord). x.0) o) no_place) (get_other words i n w d)

pub three_places : (a b c : PlaceWord) → Tells a.0 0 1 → Tells b.0 0 0 → Tells c.0 1 0 → ArePlaces (slice_set (slice_set (slice_set (replicate 26 (record { 0 = 0 })) 16 a) 24 b) 25 c)
three_places a b c s t u = are_places _ (record {
  others = λ n x y z. word_other (slice_set (slice_set (replicate 26 (record { 0 = 0 })) 16 a) 24 b) 25 n c z ∙ (word_other (slice_set (replicate 26 (record { 0 = 0 })) 16 a) 24 n b y ∙ (word_other (replicate 26 (record { 0 = 0 })) 16 n a x ∙ no_words 26 n));
  first = s;
  second = t;
  third = u;
})
