-- How the sums over a seat's marks change where marks come and go.
use Rattle.std.proofs.Common.{◌≡◌, ℕ, ◌<◌, ◌≤◌, Bool, true, false, List, [], ◌∷◌, refl, sym, ap, ◌∙◌, arith, cond, eq-eqb, ne_eqb}
use mathlib.Core.Logic.{dite}
use native.Mathlib.Decide.{ℕ_discrete}
use Rattle.sock_model.specs.declared.marks.Mark.{Mark}
use Rattle.sock_model.specs.declared.marks.Mark.TheVariants.{Recycling, Hold, Probe, Zero, Coding, Tried, Known, Saw, Stored, Told, Met}
use Rattle.sock_model.specs.declared.marks.SlotMark.{SlotMark}
use Rattle.sock_model.specs.MarkWeights.{is_failer, is_freer, is_linked, is_reset}
use Rattle.sock_model.specs.Marks.{about, at, without, without_at}
use Rattle.sock_model.specs.ChainLawReads.{waits_link}
use Rattle.slot_steps.proofs.SlotWeightSums.{about-here, about-other}
use Rattle.slot_steps.proofs.OtherSlotsUntouched.{about-without, about-without_else}
use Rattle.sock_model.specs.sock_words.specs.Totals.{total}

pub either_way : {A : Type 0} (b : Bool) (x y : A) (P : A → Type 0) → P x → P y → P (cond b x y)
either_way true x y P p q = p
either_way false x y P p q = q

-- the marks of each slot have no more of the weight than before, or no less
abbrev pub Less : (Mark → ℕ) → List SlotMark → List SlotMark → Type 0
Less f old new = (j : ℕ) → total f (about j new) ≤ total f (about j old)

abbrev pub More : (Mark → ℕ) → List SlotMark → List SlotMark → Type 0
More f old new = (j : ℕ) → total f (about j old) ≤ total f (about j new)

without_le : (f g : Mark → ℕ) (ms : List Mark) → total f (without g ms) ≤ total f ms
without_le f g [] = omega arith
without_le f g (x ∷ xs) = let ih = without_le f g xs in dite (ℕ_discrete (g x) 0)
    (λ e. let q = eq-eqb (g x) 0 e in simp q (omega arith))
    (λ n. let q = ne_eqb (g x) 0 n in simp q (omega arith))

without_same : (f g : Mark → ℕ) (ms : List Mark) → ((x : Mark) → 0 < g x → f x ≡ 0) → total f (without g ms) ≡ total f ms
without_same f g [] h = refl
without_same f g (x ∷ xs) h = let ih = without_same f g xs h in dite (ℕ_discrete (g x) 0)
    (λ e. let q = eq-eqb (g x) 0 e in simp q (omega arith))
    (λ n. let q = ne_eqb (g x) 0 n in let z = h x (omega arith) in simp q (omega arith))

module _ (f : Mark → ℕ) (old : List SlotMark) where
  pub less_add : (i : ℕ) (m : Mark) (new : List SlotMark) → f m ≡ 0 → Less f old new → Less f old (at i m ∷ new)
  less_add i m new z h j = dite (ℕ_discrete j i)
      (λ e. let k = h j in let q : total f (about j (at i m ∷ new)) ≡ total f (m ∷ about j new) = ap (λ y. total f (about y (at i m ∷ new))) e ∙ (ap (total f) (about-here i m new) ∙ ap (λ y. total f (m ∷ about y new)) (sym e)) in omega arith)
      (λ n. let k = h j in let q = ap (total f) (about-other j i m new n) in omega arith)

  pub more_add : (i : ℕ) (m : Mark) (new : List SlotMark) → More f old new → More f old (at i m ∷ new)
  more_add i m new h j = dite (ℕ_discrete j i)
      (λ e. let k = h j in let q : total f (about j (at i m ∷ new)) ≡ total f (m ∷ about j new) = ap (λ y. total f (about y (at i m ∷ new))) e ∙ (ap (total f) (about-here i m new) ∙ ap (λ y. total f (m ∷ about y new)) (sym e)) in omega arith)
      (λ n. let k = h j in let q = ap (total f) (about-other j i m new n) in omega arith)

  pub less_all : Less f old old
  less_all j = omega arith

  pub more_all : More f old old
  more_all j = omega arith

  pub less_without : (i : ℕ) (g : Mark → ℕ) → Less f old (without_at i g old)
  less_without i g j = dite (ℕ_discrete j i)
      (λ e. let q : total f (about j (without_at i g old)) ≡ total f (without g (about j old)) = ap (λ y. total f (about y (without_at i g old))) e ∙ (ap (total f) (about-without i g old) ∙ ap (λ y. total f (without g (about y old))) (sym e)) in omega (arith, without_le f g (about j old)))
      (λ n. let q = ap (total f) (about-without_else j i g old n) in omega arith)

  pub more_without : (i : ℕ) (g : Mark → ℕ) → ((x : Mark) → 0 < g x → f x ≡ 0) → More f old (without_at i g old)
  more_without i g z j = dite (ℕ_discrete j i)
      (λ e. let q : total f (about j (without_at i g old)) ≡ total f (without g (about j old)) = ap (λ y. total f (about y (without_at i g old))) e ∙ (ap (total f) (about-without i g old) ∙ ap (λ y. total f (without g (about y old))) (sym e)) in omega (arith, without_same f g (about j old) z))
      (λ n. let q = ap (total f) (about-without_else j i g old n) in omega arith)

-- a weight of none of these marks: the others are Claimed, Born, Failer, Freer and Linked
pub record Quiet (f : Mark → ℕ) : Type 0 where
  pub recycling : (w : ℕ) → f (Recycling w) ≡ 0
  pub hold : (h : ℕ) → f (Hold h) ≡ 0
  pub probe : f Probe ≡ 0
  pub zeros : (w : ℕ) → f (Zero w) ≡ 0
  pub coding : (h : ℕ) → f (Coding h) ≡ 0
  pub tried : f Tried ≡ 0
  pub known : (h : ℕ) → f (Known h) ≡ 0
  pub saw : (w : ℕ) → f (Saw w) ≡ 0
  pub stored : (h c : ℕ) → f (Stored h c) ≡ 0
  pub told : (h c : ℕ) → f (Told h c) ≡ 0
  pub met : (h k : ℕ) → f (Met h k) ≡ 0

pub quiet_linked : (h k : ℕ) → Quiet (is_linked h k)
quiet_linked h k = record { recycling = λ w. refl; hold = λ g. refl; probe = refl; zeros = λ w. refl; coding = λ g. refl; tried = refl; known = λ g. refl; saw = λ w. refl; stored = λ g c. refl; told = λ g c. refl; met = λ g c. refl }

pub quiet_freer : (h : ℕ) → Quiet (is_freer h)
quiet_freer h = record { recycling = λ w. refl; hold = λ g. refl; probe = refl; zeros = λ w. refl; coding = λ g. refl; tried = refl; known = λ g. refl; saw = λ w. refl; stored = λ g c. refl; told = λ g c. refl; met = λ g c. refl }

pub quiet_failer : (h : ℕ) → Quiet (is_failer h)
quiet_failer h = record { recycling = λ w. refl; hold = λ g. refl; probe = refl; zeros = λ w. refl; coding = λ g. refl; tried = refl; known = λ g. refl; saw = λ w. refl; stored = λ g c. refl; told = λ g c. refl; met = λ g c. refl }

pub quiet_reset : Quiet is_reset
quiet_reset = record { recycling = λ w. refl; hold = λ g. refl; probe = refl; zeros = λ w. refl; coding = λ g. refl; tried = refl; known = λ g. refl; saw = λ w. refl; stored = λ g c. refl; told = λ g c. refl; met = λ g c. refl }

-- claims with a link do not grow when a mark goes
pub waits-without : (k i : ℕ) (g : Mark → ℕ) (es : List SlotMark) → total (waits_link k) (without_at i g es) ≤ total (waits_link k) es
waits-without k i g [] = omega arith
waits-without k i g (e ∷ es) = let ih = waits-without k i g es in dite (ℕ_discrete e.slot i)
    (λ y. let q = eq-eqb e.slot i y in dite (ℕ_discrete (g e.mark) 0) (λ y'. let r = eq-eqb (g e.mark) 0 y' in simp (q, r) (omega arith)) (λ n. let r = ne_eqb (g e.mark) 0 n in simp (q, r) (omega arith)))
    (λ n. let q = ne_eqb e.slot i n in simp q (omega arith))
