-- How many of the marks that the plain model reads a view has of each life, where marks come and go.
use Rattle.std.proofs.Common.{◌≡◌, ◌≢◌, ℕ, ◌+◌, ◌<◌, List, [], ◌∷◌, refl, sym, ap, ◌∙◌, subst, arith, eq-eqb, ne_eqb}
use Rattle.std.proofs.lemmas.Bool.Decides.{nat_tests}
use mathlib.Core.Logic.{dite}
use native.Mathlib.Decide.{ℕ_discrete}
use Rattle.sock_model.specs.declared.marks.Mark.{Mark}
use Rattle.sock_model.specs.declared.marks.Mark.TheVariants as mark
use Rattle.sock_model.specs.declared.marks.SlotMark.{SlotMark}
use Rattle.sock_model.specs.MarkWeights.{only, pair, is_hold, is_born, is_failer, is_freer}
use Rattle.sock_model.specs.Marks.{about, at, without, without_at}
use Rattle.sock_model.specs.PlainReferences.{Life, life_at, once_more}
use Rattle.slot_steps.proofs.SlotWeightSums.{about-here, about-other, taken_as}
use Rattle.slot_steps.proofs.OtherSlotsUntouched.{about-without, about-without_else}
use Rattle.slot_steps.proofs.ReferenceStepsKeepSlot.{hold_is}
use Rattle.sock_words.specs.Totals.{total}

-- of each life the new marks have so many more
pub record Grown (old new : List SlotMark) (births fails ends holds : Life → ℕ) : Type 0 where
  pub born : (l : Life) → total (is_born l.version) (about l.slot new) ≡ total (is_born l.version) (about l.slot old) + births l
  pub failed : (l : Life) → total (is_failer l.version) (about l.slot new) ≡ total (is_failer l.version) (about l.slot old) + fails l
  pub ended : (l : Life) → total (is_freer l.version) (about l.slot new) ≡ total (is_freer l.version) (about l.slot old) + ends l
  pub held : (l : Life) → total (is_hold l.version) (about l.slot new) ≡ total (is_hold l.version) (about l.slot old) + holds l

-- no more of any life
abbrev pub no_life : Life → ℕ
no_life l = 0

abbrev pub Same : List SlotMark → List SlotMark → Type 0
Same old new = Grown old new no_life no_life no_life no_life

-- 1 where the plain model reads the mark, else 0
abbrev pub is_read : Mark → ℕ
is_read (mark.Hold _) = 1
is_read (mark.Born _) = 1
is_read (mark.Failer _) = 1
is_read (mark.Freer _) = 1
is_read _ = 0

record Silent (m : Mark) : Type 0 where
  pub born : (h : ℕ) → is_born h m ≡ 0
  pub failed : (h : ℕ) → is_failer h m ≡ 0
  pub ended : (h : ℕ) → is_freer h m ≡ 0
  pub held : (h : ℕ) → is_hold h m ≡ 0

silent : (m : Mark) → is_read m ≡ 0 → Silent m
silent (mark.Hold _) z = absurd (omega arith)
silent (mark.Born _) z = absurd (omega arith)
silent (mark.Failer _) z = absurd (omega arith)
silent (mark.Freer _) z = absurd (omega arith)
silent _ z = record { born = λ h. refl; failed = λ h. refl; ended = λ h. refl; held = λ h. refl }

pair-here : (i k j h : ℕ) → j ≡ i → pair i k j h ≡ only h k
unfolding pair only
pair-here i k j h e = grind (arith, nat_tests)

pair-far : (i k j h : ℕ) → j ≢ i → pair i k j h ≡ 0
unfolding pair
pair-far i k j h n = grind (arith, nat_tests)

-- a mark more of slot i
top_silent : (f : Mark → ℕ) (i j : ℕ) (m : Mark) (es : List SlotMark) → f m ≡ 0 → total f (about j (at i m ∷ es)) ≡ total f (about j es)
top_silent f i j m es z = dite (ℕ_discrete j i)
    (λ e. let q = subst (λ (y : ℕ). about y (at i m ∷ es) ≡ m ∷ about y es) (sym e) (about-here i m es) in omega (arith, ap (total f) q))
    (λ n. ap (total f) (about-other j i m es n))

top_counts : (f : ℕ → Mark → ℕ) (m : ℕ → Mark) → ((h k : ℕ) → f h (m k) ≡ only h k) → (i k j h : ℕ) (es : List SlotMark) → total (f h) (about j (at i (m k) ∷ es)) ≡ total (f h) (about j es) + pair i k j h
top_counts f m is i k j h es = dite (ℕ_discrete j i)
    (λ e. let q = subst (λ (y : ℕ). about y (at i (m k) ∷ es) ≡ m k ∷ about y es) (sym e) (about-here i (m k) es) in omega (arith, ap (total (f h)) q, is h k, pair-here i k j h e))
    (λ n. omega (arith, ap (total (f h)) (about-other j i (m k) es n), pair-far i k j h n))

rest_silent : (f g : Mark → ℕ) (ms : List Mark) → ((x : Mark) → 0 < g x → f x ≡ 0) → total f (without g ms) ≡ total f ms
rest_silent f g [] h = refl
rest_silent f g (x ∷ xs) h = let ih = rest_silent f g xs h in dite (ℕ_discrete (g x) 0)
    (λ e. let q = eq-eqb (g x) 0 e in simp q (omega arith))
    (λ n. let q = ne_eqb (g x) 0 n in let z = h x (omega arith) in simp q (omega arith))

slot_silent : (f g : Mark → ℕ) (i j : ℕ) (es : List SlotMark) → ((x : Mark) → 0 < g x → f x ≡ 0) → total f (about j (without_at i g es)) ≡ total f (about j es)
slot_silent f g i j es h = dite (ℕ_discrete j i)
    (λ e. subst (λ (y : ℕ). total f (about y (without_at i g es)) ≡ total f (about y es)) (sym e) (ap (total f) (about-without i g es) ∙ rest_silent f g (about i es) h))
    (λ n. ap (total f) (about-without_else j i g es n))

pub same_marks : (es : List SlotMark) → Same es es
same_marks es = record { born = λ l. omega arith; failed = λ l. omega arith; ended = λ l. omega arith; held = λ l. omega arith }

module _ {births fails ends holds : Life → ℕ} (old new : List SlotMark) (g : Grown old new births fails ends holds) where
  pub silent_more : (i : ℕ) (m : Mark) → is_read m ≡ 0 → Grown old (at i m ∷ new) births fails ends holds
  silent_more i m z = let s = silent m z in record {
    born = λ l. top_silent (is_born l.version) i l.slot m new (s.born l.version) ∙ g.born l;
    failed = λ l. top_silent (is_failer l.version) i l.slot m new (s.failed l.version) ∙ g.failed l;
    ended = λ l. top_silent (is_freer l.version) i l.slot m new (s.ended l.version) ∙ g.ended l;
    held = λ l. top_silent (is_hold l.version) i l.slot m new (s.held l.version) ∙ g.held l;
  }

  pub silent_less : (i : ℕ) (f : Mark → ℕ) → ((x : Mark) → 0 < f x → is_read x ≡ 0) → Grown old (without_at i f new) births fails ends holds
  silent_less i f s = record {
    born = λ l. slot_silent (is_born l.version) f i l.slot new (λ x q. (silent x (s x q)).born l.version) ∙ g.born l;
    failed = λ l. slot_silent (is_failer l.version) f i l.slot new (λ x q. (silent x (s x q)).failed l.version) ∙ g.failed l;
    ended = λ l. slot_silent (is_freer l.version) f i l.slot new (λ x q. (silent x (s x q)).ended l.version) ∙ g.ended l;
    held = λ l. slot_silent (is_hold l.version) f i l.slot new (λ x q. (silent x (s x q)).held l.version) ∙ g.held l;
  }

  -- the old marks have a silent one more
  pub silent_before : (i : ℕ) (m : Mark) → is_read m ≡ 0 → Grown (at i m ∷ old) new births fails ends holds
  silent_before i m z = let s = silent m z in record {
    born = λ l. omega (arith, g.born l, top_silent (is_born l.version) i l.slot m old (s.born l.version));
    failed = λ l. omega (arith, g.failed l, top_silent (is_failer l.version) i l.slot m old (s.failed l.version));
    ended = λ l. omega (arith, g.ended l, top_silent (is_freer l.version) i l.slot m old (s.ended l.version));
    held = λ l. omega (arith, g.held l, top_silent (is_hold l.version) i l.slot m old (s.held l.version));
  }

  pub born_more : (i k : ℕ) → Grown old (at i (mark.Born k) ∷ new) (once_more (life_at i k) births) fails ends holds
  born_more i k = let m : Mark = mark.Born k in record {
    born = λ l. omega (arith, top_counts is_born mark.Born (λ h n. refl) i k l.slot l.version new, g.born l);
    failed = λ l. top_silent (is_failer l.version) i l.slot m new refl ∙ g.failed l;
    ended = λ l. top_silent (is_freer l.version) i l.slot m new refl ∙ g.ended l;
    held = λ l. top_silent (is_hold l.version) i l.slot m new refl ∙ g.held l;
  }

  pub failer_more : (i k : ℕ) → Grown old (at i (mark.Failer k) ∷ new) births (once_more (life_at i k) fails) ends holds
  failer_more i k = let m : Mark = mark.Failer k in record {
    born = λ l. top_silent (is_born l.version) i l.slot m new refl ∙ g.born l;
    failed = λ l. omega (arith, top_counts is_failer mark.Failer (λ h n. refl) i k l.slot l.version new, g.failed l);
    ended = λ l. top_silent (is_freer l.version) i l.slot m new refl ∙ g.ended l;
    held = λ l. top_silent (is_hold l.version) i l.slot m new refl ∙ g.held l;
  }

  pub freer_more : (i k : ℕ) → Grown old (at i (mark.Freer k) ∷ new) births fails (once_more (life_at i k) ends) holds
  freer_more i k = let m : Mark = mark.Freer k in record {
    born = λ l. top_silent (is_born l.version) i l.slot m new refl ∙ g.born l;
    failed = λ l. top_silent (is_failer l.version) i l.slot m new refl ∙ g.failed l;
    ended = λ l. omega (arith, top_counts is_freer mark.Freer (λ h n. refl) i k l.slot l.version new, g.ended l);
    held = λ l. top_silent (is_hold l.version) i l.slot m new refl ∙ g.held l;
  }

  pub hold_more : (i k : ℕ) → Grown old (at i (mark.Hold k) ∷ new) births fails ends (once_more (life_at i k) holds)
  hold_more i k = let m : Mark = mark.Hold k in record {
    born = λ l. top_silent (is_born l.version) i l.slot m new refl ∙ g.born l;
    failed = λ l. top_silent (is_failer l.version) i l.slot m new refl ∙ g.failed l;
    ended = λ l. top_silent (is_freer l.version) i l.slot m new refl ∙ g.ended l;
    held = λ l. omega (arith, top_counts is_hold mark.Hold (λ h n. refl) i k l.slot l.version new, g.held l);
  }

-- one hold of the life k of slot i less: the other way about, the old marks have one more
pub hold_less : (i k : ℕ) (es : List SlotMark) → 0 < total (is_hold k) (about i es) → Grown (without_at i (is_hold k) es) es no_life no_life no_life (once_more (life_at i k) no_life)
hold_less i k es there = record {
  born = λ l. omega (arith, slot_silent (is_born l.version) (is_hold k) i l.slot es (λ x q. ap (is_born l.version) (hold_is k x q)));
  failed = λ l. omega (arith, slot_silent (is_failer l.version) (is_hold k) i l.slot es (λ x q. ap (is_failer l.version) (hold_is k x q)));
  ended = λ l. omega (arith, slot_silent (is_freer l.version) (is_hold k) i l.slot es (λ x q. ap (is_freer l.version) (hold_is k x q)));
  held = λ l. dite (ℕ_discrete l.slot i)
      (λ e. let t = taken_as (is_hold k) (mark.Hold k) (about i es) (hold_is k) there (is_hold l.version) in
      let a = ap (total (is_hold l.version)) (about-without i (is_hold k) es) in
      let b = subst (λ (y : ℕ). total (is_hold l.version) (about y es) ≡ total (is_hold l.version) (about y (without_at i (is_hold k) es)) + only l.version k) (sym e) (let goal : total (is_hold l.version) (about i es) ≡ total (is_hold l.version) (about i (without_at i (is_hold k) es)) + only l.version k = omega arith in goal) in
      omega (arith, pair-here i k l.slot l.version e))
      (λ n. omega (arith, ap (total (is_hold l.version)) (about-without_else l.slot i (is_hold k) es n), pair-far i k l.slot l.version n));
}
