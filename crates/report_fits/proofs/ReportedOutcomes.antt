-- The outcomes of a report: what was said of an operation, or else what its place word tells.
use Rattle.std.proofs.Common.{◌≡◌, ℕ, zero, suc, ◌+◌, ◌*◌, ◌⊎◌, inl, inr, if◌then◌else◌, Bool, true, false, List, [], ◌∷◌, length, slice_get, Option, Some, None, refl, ap, sym, ◌∙◌, arith}
use Rattle.sock_words.specs.declared.outcome.Outcome.{Outcome}
use Rattle.sock_words.specs.declared.outcome.Outcome.TheVariants.{Placed, Dropped}
use Rattle.sock_words.specs.declared.place_word.PlaceWord.{PlaceWord}
use Rattle.sock_words.specs.PackedWords.{place_word_dropped, place_word_link, place_word_position}
use Rattle.brpc_model.specs.PlaceWords.{word_at, outcome_by_word, outcome_of, outcomes_from}
use Rattle.script_facts.proofs.FilteredLists.{some_is}

pub outcomes_length : (words : List PlaceWord) (n : ℕ) (os : List (Option Outcome)) → length (outcomes_from words n os) ≡ length os
outcomes_length words n [] = refl
outcomes_length words n (o ∷ os) = ap suc (outcomes_length words (n + 1) os)

outcomes_at : (words : List PlaceWord) (n : ℕ) (os : List (Option Outcome)) (i : ℕ) (said : Option Outcome) → slice_get os i ≡ Some said → slice_get (outcomes_from words n os) i ≡ Some (outcome_of words (n + i) said)
outcomes_at words n [] i said e = absurd (cc)
outcomes_at words n (o ∷ os) zero said e =
    let first : n ≡ n + 0 = omega arith in
    ap (λ x. Some (outcome_of words n x)) (some_is o said e) ∙ ap (λ m. Some (outcome_of words m said)) first
outcomes_at words n (o ∷ os) (suc i) said e =
    let next : (n + 1) + i ≡ n + suc i = omega arith in
    outcomes_at words (n + 1) os i said e ∙ ap (λ m. Some (outcome_of words m said)) next

at_outcomes : (words : List PlaceWord) (n : ℕ) (os : List (Option Outcome)) (i : ℕ) (o : Outcome) → slice_get (outcomes_from words n os) i ≡ Some o →
    (said : Option Outcome) × (slice_get os i ≡ Some said) × (o ≡ outcome_of words (n + i) said)
at_outcomes words n [] i o e = absurd (cc)
at_outcomes words n (x ∷ os) zero o e =
    let first : n ≡ n + 0 = omega arith in
    (x, refl, sym (some_is (outcome_of words n x) o e) ∙ ap (λ m. outcome_of words m x) first)
at_outcomes words n (x ∷ os) (suc i) o e =
    let next : (n + 1) + i ≡ n + suc i = omega arith in
    let w = at_outcomes words (n + 1) os i o e in
    (w.0, w.1, w.2 ∙ ap (λ m. outcome_of words m w.0) next)

-- ## From operation 0 on

-- what was said is reported
pub told_outcome : (words : List PlaceWord) (os : List (Option Outcome)) (i : ℕ) (o : Outcome) → slice_get os i ≡ Some (Some o) → slice_get (outcomes_from words 0 os) i ≡ Some o
told_outcome words os i o e = outcomes_at words 0 os i (Some o) e

-- and where nothing was, what the place word tells
pub untold_outcome : (words : List PlaceWord) (os : List (Option Outcome)) (i : ℕ) → slice_get os i ≡ Some None → slice_get (outcomes_from words 0 os) i ≡ Some (outcome_by_word (word_at words (8 * i)))
untold_outcome words os i e =
    let same : 0 + i ≡ i = omega arith in
    outcomes_at words 0 os i None e ∙ ap (λ m. Some (outcome_of words m None)) same

-- an outcome that is reported was said, or its place word tells it
abbrev pub SaidOrPlaced : List PlaceWord → List (Option Outcome) → ℕ → Outcome → Type 0
SaidOrPlaced words os i o = (slice_get os i ≡ Some (Some o)) ⊎ ((slice_get os i ≡ Some None) × (o ≡ outcome_by_word (word_at words (8 * i))))

pub said_or_placed : (words : List PlaceWord) (os : List (Option Outcome)) (i : ℕ) (o : Outcome) → slice_get (outcomes_from words 0 os) i ≡ Some o → SaidOrPlaced words os i o
said_or_placed words os i o e = let w = at_outcomes words 0 os i o e in by_said w.0 w.1 w.2
  where
    by_said : (said : Option Outcome) → slice_get os i ≡ Some said → o ≡ outcome_of words (0 + i) said → SaidOrPlaced words os i o
    by_said (Some x) f g = inl (f ∙ ap (λ y. Some (Some y)) (sym g))
    by_said None f g = let same : 0 + i ≡ i = omega arith in inr (f, g ∙ ap (λ m. outcome_of words m None) same)

-- ## Outcomes that no place word tells

abbrev pub is_said : Outcome → Bool
is_said (Placed k i) = false
is_said (Dropped k i) = false
is_said other = true

word_unsaid : (word : ℕ) → is_said (outcome_by_word word) ≡ false
word_unsaid word = elim (place_word_dropped word) as (λ b. is_said (if b then Dropped (place_word_link word) (place_word_position word) else Placed (place_word_link word) (place_word_position word)) ≡ false) [ true ↦ refl | false ↦ refl ]

pub outcome_told : (words : List PlaceWord) (os : List (Option Outcome)) (i : ℕ) (o : Outcome) → is_said o ≡ true → slice_get (outcomes_from words 0 os) i ≡ Some o → slice_get os i ≡ Some (Some o)
outcome_told words os i o s e = by_case (said_or_placed words os i o e)
  where
    by_case : SaidOrPlaced words os i o → slice_get os i ≡ Some (Some o)
    by_case (inl f) = f
    by_case (inr f) = let no : true ≡ false = sym s ∙ ap is_said f.1 ∙ word_unsaid (word_at words (8 * i)) in absurd (cc)
