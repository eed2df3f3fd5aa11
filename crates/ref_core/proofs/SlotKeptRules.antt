-- Each step on a slot's words keeps the rule, as the laws of the steps say it of the word that is there.
use Rattle.std.proofs.Common.{◌≡◌, ◌≢◌, ℕ, ◌+◌, ◌-◌, ◌*◌, ◌%◌, ◌^◌, ◌<◌, Bool, [], sym, ◌∙◌, subst, arith, bit_or}
use Rattle.sock_words.specs.PackedWords.{vref_version, vref_nref}
use Rattle.sock_model.specs.SocketTableLayout.{tag_index, ref_index}
use Rattle.sock_model.specs.SlotRows.{claimed, gave_birth, added, back, subbed, failed, recycled, freed, looked}
use Rattle.sock_model.specs.LawfulSockets.{Lawful}
use Rattle.atomic_table.specs.Table.{stepped, keeps}
use Rattle.sock_steps.proofs.SlotSteps.{claim_law, add_law, sub_law, set_odd_law, recycle_lost_law, free_law, look_law}
use Rattle.sock_steps.proofs.Birth.{birth_law}
use Rattle.sock_steps.proofs.EndOfSlotLife.{recycle_law}
use Rattle.ref_core.specs.KeepingSlotRule.{KeepsSlotRule, MayClaim, MayAdd, MaySub, MayFail, MayRecycle, MayFree, MayBear}

pub claims : (i found : ℕ) → KeepsSlotRule (MayClaim i) (tag_index i) found 1 (claimed i found)
claims i found p s id v o here inside is = subst (λ x. Lawful (λ home. home) p (stepped s (tag_index i) 1 id [] (claimed i x v) keeps)) is (claim_law (λ home. home) p s o id v here i inside)

pub frees : (i found : ℕ) → KeepsSlotRule (MayFree i) (tag_index i) found 0 (freed i)
frees i found p s id v o here may is = let r = may.1 in free_law (λ home. home) p s o id v here i may.0 r.0 r.1 r.2 may.2

module _ (i found : ℕ) (small : found < 2 ^ 64) where
  pub looks : KeepsSlotRule (MayClaim i) (ref_index i) found found (looked i found)
  looks p s id v o here inside is = subst (λ x. Lawful (λ home. home) p (stepped s (ref_index i) x id [] (looked i x v) keeps)) is (look_law (λ home. home) p s o id v here i inside (omega (arith, is, small)))

  pub fails : KeepsSlotRule (MayFail i) (ref_index i) found (bit_or found 4294967296) (failed i found)
  fails p s id v o here may is = subst (λ x. Lawful (λ home. home) p (stepped s (ref_index i) (bit_or x 4294967296) id [] (failed i x v) keeps)) is
      (set_odd_law (λ home. home) p s o id v here i may.0 (omega (arith, is, small)) may.1.0 may.1.1 may.2)

  module _ (room : vref_nref found < 4294967295) where
    next_is : (found + 1) % 2 ^ 64 ≡ found + 1
    next_is = omega (arith, room, small)

    pub adds : (is_life : Bool) → KeepsSlotRule (MayAdd i found is_life) (ref_index i) found (found + 1) (added i found is_life)
    adds is_life p s id v o here may is = subst (λ n. Lawful (λ home. home) p (stepped s (ref_index i) n id [] (added i found is_life v) keeps)) next_is
        (subst (λ x. Lawful (λ home. home) p (stepped s (ref_index i) ((x + 1) % 2 ^ 64) id [] (added i x is_life v) keeps)) is
        (add_law (λ home. home) p s o id v here i may.0 (omega (arith, is, small)) is_life (λ e. subst (λ x. 0 < Rattle.sock_model.specs.SlotRows.marks_of (Rattle.sock_model.specs.MarkWeights.is_known (vref_version x)) i v) (sym is) (may.1 e)) may.2))

    pub bears : (k : ℕ) → KeepsSlotRule (MayBear i k) (ref_index i) found (found + 1) (gave_birth i found k)
    bears k p s id v o here may is = subst (λ n. Lawful (λ home. home) p (stepped s (ref_index i) n id [] (gave_birth i found k v) keeps)) next_is
        (subst (λ x. Lawful (λ home. home) p (stepped s (ref_index i) ((x + 1) % 2 ^ 64) id [] (gave_birth i x k v) keeps)) is
        (birth_law (λ home. home) p s o id v here i may.0 (omega (arith, is, small)) k may.1))

  pub subs : 0 < vref_nref found → KeepsSlotRule (MaySub i) (ref_index i) found (found - 1) (λ v. subbed i found (back i found v) v)
  subs some_ p s id v o here may is =
      let n : (found + (2 ^ 64 - 1)) % 2 ^ 64 ≡ found - 1 = omega (arith, some_, small) in
      subst (λ n. Lawful (λ home. home) p (stepped s (ref_index i) n id [] (subbed i found (back i found v) v) keeps)) n
      (subst (λ x. Lawful (λ home. home) p (stepped s (ref_index i) ((x + (2 ^ 64 - 1)) % 2 ^ 64) id [] (subbed i x (back i x v) v) keeps)) is
      (sub_law (λ home. home) p s o id v here i may.0 (omega (arith, is, small)) may.1 may.2 may.3))

  pub recycles_not : (from : ℕ) → found ≢ from → vref_nref from ≡ 0 → KeepsSlotRule (MayRecycle i from) (ref_index i) found found (recycled i from found)
  recycles_not from miss none_ p s id v o here may is = subst (λ x. Lawful (λ home. home) p (stepped s (ref_index i) x id [] (recycled i from x v) keeps)) is
      (recycle_lost_law (λ home. home) p s o id v here i may.0 (omega (arith, is, small)) from (λ e. miss (sym is ∙ e)) none_ may.1)

  pub recycles_won : (from : ℕ) → found ≡ from → vref_version from % 2 ≡ 1 → vref_nref from ≡ 0 → KeepsSlotRule (MayRecycle i from) (ref_index i) found (found + 4294967296) (recycled i from found)
  recycles_won from hit odd none_ p s id v o here may is =
      let n : (vref_version from + 1) * 4294967296 ≡ found + 4294967296 = omega (arith, hit, none_) in
      subst (λ n. Lawful (λ home. home) p (stepped s (ref_index i) n id [] (recycled i from found v) keeps)) n
      (subst (λ x. Lawful (λ home. home) p (stepped s (ref_index i) ((vref_version from + 1) * 4294967296) id [] (recycled i from x v) keeps)) is
      (recycle_law (λ home. home) p s o id v here i may.0 (omega (arith, is, small)) from (is ∙ hit) odd none_ may.1))
