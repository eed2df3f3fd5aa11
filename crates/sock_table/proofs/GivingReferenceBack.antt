-- A reference that is given back.
use Rattle.std.proofs.Common.{◌≡◌, ◌≢◌, ℕ, ◌-◌, ◌%◌, ◌<◌, ◌≤◌, Bool, true, false, cond, eqb, List, [], ◌∷◌, eq-eqb, ne_eqb, refl, sym, ap, ◌∙◌, subst, arith}
use mathlib.Core.Option.{some, some-ne-none}
use lib.ListN.{get_elem?}
use Rattle.sock_model.specs.declared.chain.Right.{Right}
use Rattle.sock_model.specs.declared.marks.Mark.{Mark}
use Rattle.sock_model.specs.declared.marks.Mark.TheVariants.{Hold, Probe, Zero}
use Rattle.sock_model.specs.declared.view.View.{View}
use Rattle.sock_model.specs.MarkWeights.{is_ref, is_probe, is_hold, is_zero}
use Rattle.sock_model.specs.Marks.{about}
use Rattle.sock_model.specs.SlotRows.{marks_of, subbed, back}
use Rattle.sock_rule.specs.slot_steps.proofs.SlotWeightSums.{total_mono, total-append}
use Rattle.sock_rule.specs.slot_steps.proofs.RuleNumbers.{only_le, only-same}
use Rattle.sock_rule.specs.MarksComeAndGo.{Became, Goes, probe_goes, hold_goes}
use Rattle.sock_rule.proofs.MarksComeAndGo.{then_, counts_as, becomes, zero_left, subbed_marks}
use Rattle.sock_table.specs.ReferenceCalls.{EndedBy, GaveBack}
use Rattle.sock_words.specs.PackedWords.{vref_version, vref_nref}
use Rattle.sock_model.specs.ChainStepConditions.{KeepsRights}
use Rattle.sock_words.specs.Totals.{total}

-- whoever has a reference has one that is counted
pub some_ref : (i : ℕ) (v : View) (m : Mark) → Goes i v m → 0 < marks_of is_ref i v
some_ref i v m (probe_goes there) = let le = total_mono is_probe is_ref probe_ref (about i v.marks) in omega arith
  where
    probe_ref : (m : Mark) → is_probe m ≤ is_ref m
    probe_ref Probe = omega arith
    probe_ref _ = omega arith
some_ref i v m (hold_goes h none_ there) = let le = total_mono (is_hold h) is_ref (hold_ref h) (about i v.marks) in omega arith
  where
    hold_ref : (h : ℕ) (m : Mark) → is_hold h m ≤ is_ref m
    hold_ref h (Hold k) = only_le h k
    hold_ref h _ = omega arith

-- a seat without rights may give each reference back
pub no_rights : (i : ℕ) (v : View) → v.rights ≡ [] → KeepsRights i v
no_rights i v none_ x r h e = absurd (some-ne-none r (sym (subst (λ (l : List Right). get_elem? l x ≡ some r) none_ e)))

module _ (i found : ℕ) (u a : View) (is : a ≡ subbed i found (back i found u) u) (held : (h : ℕ) → 0 < marks_of (is_hold h) i u → h ≡ vref_version found - vref_version found % 2) (m : Mark) (goes : Goes i u m) where
  given : Became i u a (zero_left i found) (m ∷ [])
  given = becomes i is (subbed_marks i found u m goes held)

  -- it wasn't the last one, or the life isn't failed
  pub kept_on : zero_left i found ≡ [] → GaveBack i u a m false
  kept_on none_ = record { version = 0; notes = []; became = subst (λ (l : List Mark). Became i u a l (m ∷ [])) none_ given; by = refl; life = λ h there q. absurd (false_true q) }
    where
      false_true : false ≡ true → ⊥
      false_true e = let n : ℕ ≡ ⊥ = ap (λ b. cond b ⊥ ℕ) e in subst (λ (x : Type 0). x) n 0

  module _ (odd : vref_version found % 2 ≡ 1) (last : vref_nref found ≡ 1) where
    zero_is_left : zero_left i found ≡ Zero (vref_version found) ∷ []
    zero_is_left = ap (λ b. cond b (cond (eqb (vref_nref found) 1) (Zero (vref_version found) ∷ []) []) []) (eq-eqb (vref_version found % 2) 1 odd) ∙ ap (λ b. cond b (Zero (vref_version found) ∷ []) []) (eq-eqb (vref_nref found) 1 last)

    pub zero_now : 0 < marks_of (is_zero (vref_version found)) i a
    zero_now = let w = given.here (is_zero (vref_version found)) in let e = ap (total (is_zero (vref_version found))) zero_is_left in let s = only-same (vref_version found) in let n = no_zero_goes goes in omega arith
      where
        no_zero_goes : {m : Mark} → Goes i u m → is_zero (vref_version found) m ≡ 0
        no_zero_goes (probe_goes there) = refl
        no_zero_goes (hold_goes h none_ there) = refl

    pub ends : (w : ℕ) (b : View) (ended : Bool) → w ≡ vref_version found → (notes : List Mark) → Became i a b notes (Zero w ∷ []) → EndedBy u.plan ended w notes → GaveBack i u b m ended
    ends w b ended same notes became by = record {
      version = w;
      notes = notes;
      became = counts_as i (λ f. (let e = ap (total f) zero_is_left in let q = ap (λ (x : ℕ). f (Zero x)) same in omega (arith, total-append f (zero_left i found) notes))) (then_ i given became);
      by = by;
      life = λ h there q. (let x = held h there in omega arith);
    }

-- it wasn't the last one, or the slot isn't failed
pub not_last : (i found next : ℕ) → next ≡ found - 1 → 0 < vref_nref found → vref_nref next ≢ 0 → zero_left i found ≡ []
not_last i found next is some_ more = by_cases (eqb (vref_version found % 2) 1) (eqb (vref_nref found) 1) (ne_eqb (vref_nref found) 1 (λ e. more (omega arith)))
  where
    by_cases : (b d : Bool) → d ≡ false → cond b (cond d (Zero (vref_version found) ∷ []) []) [] ≡ []
    by_cases true d e = ap (λ x. cond x (Zero (vref_version found) ∷ []) []) e
    by_cases false d e = refl

pub not_odd : (i found next : ℕ) → next ≡ found - 1 → 0 < vref_nref found → vref_version next % 2 ≢ 1 → zero_left i found ≡ []
not_odd i found next is some_ even = ap (λ b. cond b (cond (eqb (vref_nref found) 1) (Zero (vref_version found) ∷ []) []) []) (ne_eqb (vref_version found % 2) 1 (λ e. even (omega arith)))
