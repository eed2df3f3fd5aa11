-- What the law of a slot says of a seat: one that holds the life h and saw h + 1 knows that the life failed; it knows the code c where it was told it; and it finds h dead where it knows h and saw a later version.
use Rattle.std.proofs.Common.{◌≡◌, ℕ, ◌+◌, ◌-◌, ◌%◌, ◌<◌, ◌≤◌, ◌≢◌, ◌⊎◌, List, sym, ◌∙◌, subst, inl, inr, arith}
use mathlib.Core.Logic.{dite}
use mathlib.Core.Option.{some}
use native.Mathlib.Decide.{ℕ_discrete, dec_le}
use lib.ListN.{get_elem?}
use Rattle.sock_model.specs.declared.marks.Mark.{Mark}
use Rattle.sock_model.specs.MarkWeights.{tally, is_claimed, is_hold, is_saw, is_told, is_stored, is_known, is_failer, is_born, is_tried, is_linked}
use Rattle.sock_model.specs.SocketSlotLaw.{SlotFacts, live, count, SlotLaw}
use Rattle.slot_steps.proofs.SlotWeightSums.{term_le}
use Rattle.slot_steps.proofs.RuleNumbers.{live_le, life-in, life_is}
use Rattle.sock_model.specs.sock_words.specs.Totals.{total}

module _ (first : ℕ) (l : SlotFacts) (law : SlotLaw first (live l) l) where
  lives_le : live l ≤ 1
  lives_le = live_le l.tag l.version (tally _ l.marks)

  -- a slot that is taken, or was found taken, is claimed or had a life
  pub taken_for : first % 2 ≡ 0 → 0 < l.tag + count is_tried l → (0 < count is_claimed l) ⊎ (0 < count (is_born first) l)
  taken_for even p = let a = law.taken_by p in dite (dec_le (count is_claimed l) 0)
      (λ none_. inr (omega (arith, law.born first, life-in first first (l.version + live l) (omega arith) (omega (arith, law.begun)) even)))
      (λ n. inl (omega arith))

  -- a life that is known, and behind a version that was seen, has one who failed it
  pub dead_failed : (h w : ℕ) → 0 < count (is_known h) l → 0 < count (is_saw w) l → h < w → count (is_failer h) l ≡ 1
  dead_failed h w p q less = let t = life_is first h (l.version + live l) (omega (arith, law.known h p)) in let t₀ = t.0 in let s = law.saw w q in law.failed h ∙ life-in first h l.version t₀ (omega arith) t.2

  module _ (j : ℕ) (m : List Mark) (here : get_elem? l.marks j ≡ some m) where
    all : (f : Mark → ℕ) → total f m ≤ tally f l.marks
    all f = term_le (total f) l.marks j m here

    -- Code: the code that was told of a life that is held stands
    pub code_stays : (h c : ℕ) → 0 < total (is_hold h) m → 0 < total (is_told h c) m → (l.code ≡ c) × (c ≢ 0) × (l.version ≡ h + 1) × (0 < count (is_stored h c) l)
    code_stays h c p q = let s = law.told h c (omega (arith, all (is_told h c))) in let t = law.code_is h c s in let t₁ = t.1 in let k = law.held h (omega (arith, all (is_hold h))) in let k₀ = k.0 in let le = lives_le in
        let at : l.version ≡ h + 1 = omega arith in (t.2 (sym at), t.0, at, s)

    -- whoever holds a life reads its link
    pub link_held : (h : ℕ) → 0 < total (is_hold h) m → 0 < count (is_linked h l.link) l
    link_held h p = let k = law.held h (omega (arith, all (is_hold h))) in let k₀ = k.0 in let k₁ = k.1 in let le = lives_le in dite (ℕ_discrete (live l) 0)
        (λ z. let e : l.version - 1 ≡ h = omega arith in subst (λ (y : ℕ). 0 < count (is_linked y l.link) l) e (law.link_odd (omega arith)))
        (λ n. let e : l.version ≡ h = omega arith in subst (λ (y : ℕ). 0 < count (is_linked y l.link) l) e (law.link_live (omega arith)))
