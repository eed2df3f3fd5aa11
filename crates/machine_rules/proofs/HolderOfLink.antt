-- Who has a link in hand, by what is in hand.
use Rattle.std.proofs.Common.{◌≡◌, ◌≢◌, refl, ℕ, zero, suc, ◌+◌, ◌<◌, ◌≤◌, ◌⊎◌, inl, inr, ⊎_elim, Bool, List, [], ◌∷◌, ◌++◌, flat_map, length, Option, Some, None, ap, sym, ◌∙◌, arith, subst}
use Rattle.std.proofs.Math.ListN.{get_or-eq_default}
use Rattle.std.proofs.lemmas.Option.{none-some}
use mathlib.Core.Logic.{dite}
use native.Mathlib.Decide.{ℕ_discrete, dec_lt}
use mathlib.Core.List.{cons-ne-nil}
use Rattle.sock_model.specs.declared.home.Home.{Home}
use Rattle.sock_model.specs.declared.home.Home.TheVariants.{Link}
use Rattle.sock_model.specs.declared.view.Hand.{Hand}
use Rattle.seat_programs.specs.ScheduledRuns.{from_to}
use Rattle.machine_model.specs.program_steps.specs.SoundSeats.{AreInHand}
use Rattle.machine_model.specs.MachineLinks.{LinksData, Taken, holder_of, link_with, in_hand, hand_of}
use Rattle.machine_model.proofs.FirstSteps.{same_some}
use Rattle.machine_rules.proofs.HandsAndHomes.{HasNone, HasOnly, own_link, no_link}

flat-nothing : {A : Type 0} (f : ℕ → List A) (a n j : ℕ) → flat_map f (from_to a n) ≡ [] → a ≤ j → j < a + n → f j ≡ []
flat-nothing f a zero j e low high = absurd (omega (arith, low, high))
flat-nothing f a (suc n) j e low high = dite (ℕ_discrete j a)
    (λ same. ap f same ∙ no_first (f a) (flat_map f (from_to (a + 1) n)) e)
    (λ differ. flat-nothing f (a + 1) n j (no_more (f a) (flat_map f (from_to (a + 1) n)) e) (next_is differ) (omega (arith, high)))
  where
    next_is : j ≢ a → a + 1 ≤ j
    next_is differ = omega (arith, low, differ)

    no_first : {A : Type 0} (xs ys : List A) → xs ++ ys ≡ [] → xs ≡ []
    no_first [] ys e = refl
    no_first (x ∷ xs) ys e = absurd (cons-ne-nil x (xs ++ ys) e)

    no_more : {A : Type 0} (xs ys : List A) → xs ++ ys ≡ [] → ys ≡ []
    no_more [] ys e = e
    no_more (x ∷ xs) ys e = absurd (cons-ne-nil x (xs ++ ys) e)

holder_or : (i : ℕ) (o : Option ℕ) → (o ≡ Some i) ⊎ (o ≢ Some i)
holder_or i None = inr (λ e. none-some i e)
holder_or i (Some j) = dite (ℕ_discrete j i) (λ e. inl (ap Some e)) (λ differ. inr (λ e. differ (same_some e)))

module _ (l : LinksData) (took : Taken) (i : ℕ) where
  none_between : (a n : ℕ) → flat_map (in_hand l took i) (from_to a n) ≡ [] → (j : ℕ) → a ≤ j → j < a + n → holder_of l j ≢ Some i
  none_between a n e j low high own = cons-ne-nil _ _ (sym (own_link l took i j own) ∙ flat-nothing (in_hand l took i) a n j e low high)

  -- this link alone
  record OnlyBetween (a n k : ℕ) (x : Home) : Type 0 where
    pub inside : k < a + n
    pub own : holder_of l k ≡ Some i
    pub is : link_with l took k ≡ x
    pub others : (j : ℕ) → a ≤ j → j < a + n → j ≢ k → holder_of l j ≢ Some i

  only_between : (a n k : ℕ) (ts : List ℕ) (m : ℕ) (d : Bool) → flat_map (in_hand l took i) (from_to a n) ≡ Link k ts m d ∷ [] → OnlyBetween a n k (Link k ts m d)
  only_between a zero k ts m d e = absurd (cons-ne-nil (Link k ts m d) [] (sym e))
  only_between a (suc n) k ts m d e = ⊎_elim
      (λ own. let f : link_with l took a ∷ flat_map (in_hand l took i) (from_to (a + 1) n) ≡ Link k ts m d ∷ [] = sym (ap (λ (xs : List Home). xs ++ flat_map (in_hand l took i) (from_to (a + 1) n)) (own_link l took i a own)) ∙ e in
      let g : a ≡ k = cc in let is : link_with l took a ≡ Link k ts m d = cc in let after : flat_map (in_hand l took i) (from_to (a + 1) n) ≡ [] = cc in record {
        inside = omega (arith, g);
        own = subst (λ j. holder_of l j ≡ Some i) g own;
        is = subst (λ j. link_with l took j ≡ Link k ts m d) g is;
        others = λ j low high differ. none_between (a + 1) n after j (omega (arith, low, g, differ)) (omega (arith, high));
      })
      (λ else_. let f : flat_map (in_hand l took i) (from_to (a + 1) n) ≡ Link k ts m d ∷ [] = sym (ap (λ (xs : List Home). xs ++ flat_map (in_hand l took i) (from_to (a + 1) n)) (no_link l took i a else_)) ∙ e in
      let r = only_between (a + 1) n k ts m d f in record {
        inside = (let b = r.inside in omega (arith, b));
        own = r.own;
        is = r.is;
        others = λ j low high differ. dite (ℕ_discrete j a) (λ same own. else_ (sym (ap (holder_of l) same) ∙ own)) (λ more. r.others j (omega (arith, low, more)) (omega (arith, high)) differ);
      })
      (holder_or i (holder_of l a))

  module _ (count : ℕ) (many : length l.holders ≡ count) where
    past : (j : ℕ) → count ≤ j → holder_of l j ≢ Some i
    past j far own = none-some i (sym (get_or-eq_default l.holders None (omega (arith, many, far))) ∙ own)

    pub none_of : hand_of l count took i ≡ [] → HasNone l i
    none_of e j = dite (dec_lt j count) (λ inside. none_between 0 count e j (omega arith) (omega (arith, inside))) (λ far. past j (omega (arith, far)))

    pub only_of : (k : ℕ) (ts : List ℕ) (m : ℕ) (d : Bool) → hand_of l count took i ≡ Link k ts m d ∷ [] → (k < count) × HasOnly l i k × (link_with l took k ≡ Link k ts m d)
    only_of k ts m d e = let r = only_between 0 count k ts m d e in let inside = r.inside in
        (omega (arith, inside), (r.own, λ j differ. dite (dec_lt j count) (λ low. r.others j (omega arith) (omega (arith, low)) differ) (λ far. past j (omega (arith, far)))), r.is)

pub nothing_held : (hand : List Home) (hands : List Hand) → hands ≡ [] → AreInHand hand hands → hand ≡ []
nothing_held [] hands e are = refl
nothing_held (x ∷ xs) [] e are = absurd are
nothing_held (x ∷ xs) (h ∷ hs) e are = absurd (cons-ne-nil h hs e)
