-- The ranges of a slot, where a note comes.
use Rattle.std.proofs.Common.{◌≡◌, ◌≢◌, ℕ, ◌+◌, ◌<◌, ◌≤◌, ◌⊎◌, inl, inr, ⊎_elim, cond, eqb, eq-eqb, ne_eqb, List, sym, refl, ap, ◌∙◌, lt_of_not-le, arith}
use mathlib.Core.Logic.{dite}
use mathlib.Core.Option.{Option, none, some, some-injective}
use native.Mathlib.Decide.{ℕ_discrete, dec_le}
use Rattle.corr_core.specs.IdSlotWord.{Parts, parts}
use Rattle.corr_core.specs.declared.marks.Note.{Note}
use Rattle.corr_core.specs.declared.marks.Note.TheVariants.{Tried, Made, Ended, Locker, Queued, Attempt, Saw}
use Rattle.corr_core.specs.IdSlotLaw.{born, is_made, is_ended, is_ended_at, is_locker, is_queued, is_advance, is_attempt, Births, SawFits, NoteFits, Story}
use Rattle.corr_core.proofs.NoteSums.{only-at, only-else, pair-at, pair-else, pair-else_first, pair_le, Inserted, total_insert, each_insert, each_map, total_mono}
use Rattle.sock_words.specs.Totals.{total}

pub born_some : {A : Type 0} (o : Option A) (x : A) → o ≡ some x → born o ≡ 1
born_some o x e = ap born e

pub born_is : {A : Type 0} (o : Option A) → born o ≡ 1 → (x : A) × (o ≡ some x)
born_is none h = absurd (omega arith)
born_is (some x) h = (x, refl)

pub born_none : {A : Type 0} (o : Option A) → ((x : A) → o ≡ some x → ⊥) → born o ≡ 0
born_none none h = refl
born_none (some x) h = absurd (h x refl)

pub born_le : {A : Type 0} (o : Option A) → born o ≤ 1
born_le none = omega arith
born_le (some x) = omega arith

pub is_none : {A : Type 0} (o : Option A) → ((x : A) → o ≡ some x → ⊥) → o ≡ none
is_none none h = refl
is_none (some x) h = absurd (h x refl)

unfoldable pub upd : {A : Type 0} → ℕ → A → (ℕ → A) → ℕ → A
upd k y h x = cond (eqb x k) y (h x)

pub upd-same : {A : Type 0} (k : ℕ) (y : A) (h : ℕ → A) → upd k y h k ≡ y
unfolding upd
upd-same k y h = ap (λ z. cond z y (h k)) (eq-eqb k k refl)

pub upd-else : {A : Type 0} (k x : ℕ) (y : A) (h : ℕ → A) → x ≢ k → upd k y h x ≡ h x
unfolding upd
upd-else k x y h n = ap (λ z. cond z y (h x)) (ne_eqb x k n)

module _ {C : Type 0} where
  abbrev pub Grows : List (Note C) → List (Note C) → Type 0
  Grows ns ns' = (g : Note C → ℕ) → total g ns ≤ total g ns'

  pub grown : {ns ns' : List (Note C)} {x : Note C} → Inserted ns ns' x → Grows ns ns'
  grown h g = omega (arith, total_insert h g)

  pub saw_grows : (b b' : Births C) (f f' : ℕ) (ns ns' : List (Note C)) (w : Parts) → f ≤ f' → ((g : ℕ) (x : ℕ × C) → b g ≡ some x → b' g ≡ some x) → Grows ns ns' → SawFits b f ns w → SawFits b' f' ns' w
  saw_grows b b' f f' ns ns' w le keeps more h = record {
    not_later = let a = h.not_later in omega arith;
    is_born = λ s. let t = h.is_born s in (t.0, keeps w.first (w.range, t.0) t.1);
    was_locked = λ s. let a = h.was_locked s in let m = more (is_locker w.first) in omega arith;
    advanced = λ s. let a = h.advanced s in let m = more (is_advance w.first) in omega arith;
    oldest_by = λ s n. let a = h.oldest_by s n in let m = more (is_queued w.first w.oldest) in omega arith;
    second_by = λ s n. let a = h.second_by s n in let m = more (is_queued w.first w.second) in omega arith;
  }

  pub fits_grows : (b b' : Births C) (f f' : ℕ) (ns ns' : List (Note C)) → f ≤ f' → ((g : ℕ) (x : ℕ × C) → b g ≡ some x → b' g ≡ some x) → Grows ns ns' → (m : Note C) → NoteFits b f ns m → NoteFits b' f' ns' m
  fits_grows b b' f f' ns ns' le keeps more Tried h = tt
  fits_grows b b' f f' ns ns' le keeps more (Made g r c) h = keeps g (r, c) h
  fits_grows b b' f f' ns ns' le keeps more (Ended g n) h = let k : g < f = h in omega arith
  fits_grows b b' f f' ns ns' le keeps more (Locker g c) h = (h.0, keeps g (h.0, c) h.1)
  fits_grows b b' f f' ns ns' le keeps more (Queued g e) h = let t = born_is (b g) h in born_some (b' g) t.0 (keeps g t.0 t.1)
  fits_grows b b' f f' ns ns' le keeps more (Attempt g n) h = let t = born_is (b g) h in born_some (b' g) t.0 (keeps g t.0 t.1)
  fits_grows b b' f f' ns ns' le keeps more (Saw w) h = saw_grows b b' f f' ns ns' (parts w) le keeps more h

  -- a note that names no event of Make, End or an advance
  pub record Neutral (x : Note C) : Type 0 where
    pub no_make : (g : ℕ) → is_made g x ≡ 0
    pub no_end : (g : ℕ) → is_ended g x ≡ 0
    pub no_advance : (g : ℕ) → is_advance g x ≡ 0

  attempt_le : (g n : ℕ) (x : Note C) → is_attempt g n x ≤ is_advance g x
  attempt_le g n (Attempt f m) = pair_le g n f m
  attempt_le g n _ = omega arith

  pub attempts_le : (g n : ℕ) (ns : List (Note C)) → total (is_attempt g n) ns ≤ total (is_advance g) ns
  attempts_le g n ns = total_mono (is_attempt g n) (is_advance g) (attempt_le g n) ns

  end_le : (g n : ℕ) (x : Note C) → is_ended_at g n x ≤ is_ended g x
  end_le g n (Ended f m) = pair_le g n f m
  end_le g n _ = omega arith

  pub ends_le : (g n : ℕ) (ns : List (Note C)) → total (is_ended_at g n) ns ≤ total (is_ended g) ns
  ends_le g n ns = total_mono (is_ended_at g n) (is_ended g) (end_le g n) ns

  module _ {b : Births C} {f s : ℕ} {ns : List (Note C)} (h : Story b f s ns) where
    pub story_note : (ns' : List (Note C)) (x : Note C) → Inserted ns ns' x → NoteFits b f ns' x → Neutral x → Story b f s ns'
    story_note ns' x i fit k = record {
      fits = each_insert (NoteFits b f ns') i (each_map (NoteFits b f ns) (NoteFits b f ns') ns (fits_grows b b f f ns ns' (omega arith) (λ g y e. e) (grown i)) h.fits) fit;
      births = h.births;
      apart = h.apart;
      made = λ g. let a = h.made g in omega (arith, total_insert i (is_made g), k.no_make g);
      ended_past = λ g lt. let a = h.ended_past g lt in omega (arith, total_insert i (is_ended g), k.no_end g);
      ended_not = λ g le. let a = h.ended_not g le in omega (arith, total_insert i (is_ended g), k.no_end g);
      attempt_once = λ g n. let a = h.attempt_once g n in let z = k.no_advance g in let le = attempt_le g n x in omega (arith, total_insert i (is_attempt g n));
      one_by_one = λ g n some_. let z = k.no_advance g in let le = attempt_le g n x in let a = h.one_by_one g n (omega (arith, total_insert i (is_attempt g n))) in (a.0, λ m p lt. let y = a.1 m p lt in omega (arith, total_insert i (is_attempt g m)));
      unborn = λ g n. let a = h.unborn g n in omega (arith, total_insert i (is_advance g), k.no_advance g);
      ended_at = λ g n m some_ lt. let z = k.no_end g in let y = k.no_advance g in let le = end_le g n x in let less = attempt_le g m x in let a = h.ended_at g n m (omega (arith, total_insert i (is_ended_at g n))) lt in omega (arith, total_insert i (is_attempt g m));
    }

    pub story_state : (s' : ℕ) → (0 < s → 0 < s') → Story b f s' ns
    story_state s' m = record {
      fits = h.fits;
      births = λ g x e. let t = h.births g x e in (t.0, ⊎_elim (λ a. inl a) (λ a. inr (a.0, m a.1)) t.1);
      apart = h.apart;
      made = h.made;
      ended_past = h.ended_past;
      ended_not = h.ended_not;
      attempt_once = h.attempt_once;
      one_by_one = h.one_by_one;
      unborn = h.unborn;
      ended_at = h.ended_at;
    }

    -- nothing is made at f while the slot is free, and nothing ever behind f
    pub not_yet : (g : ℕ) → f < g ⊎ ((g ≡ f) × (s ≡ 0)) → (x : ℕ × C) → b g ≡ some x → ⊥
    not_yet g late x e = let t = h.births g x e in let one = t.0 in
        ⊎_elim (λ lt. ⊎_elim (λ a. omega arith) (λ a. let z = a.0 in omega arith) t.1) (λ q. let z = q.0 in let y = q.1 in ⊎_elim (λ a. omega arith) (λ a. let u = a.1 in omega arith) t.1) late

    pub story_made : s ≡ 0 → (s' r : ℕ) (c : C) (ns' : List (Note C)) → 0 < s' → 1 ≤ r → Inserted ns ns' (Made f r c) → Story (upd f (some (r, c)) b) f s' ns'
    story_made free s' r c ns' some_state some_range i =
        let b' : Births C = upd f (some (r, c)) b in
        let no : (x : ℕ × C) → b f ≡ some x → ⊥ = not_yet f (inr (refl, free)) in
        let here : b' f ≡ some (r, c) = upd-same f (some (r, c)) b in
        let else : (g : ℕ) → g ≢ f → b' g ≡ b g = λ g n. upd-else f g (some (r, c)) b n in
        let keeps : (g : ℕ) (x : ℕ × C) → b g ≡ some x → b' g ≡ some x = λ g x e. else g (λ q. no x (ap b (sym q) ∙ e)) ∙ e in
        let zero_here : born (b f) ≡ 0 = born_none (b f) no in
        let one_here : born (b' f) ≡ 1 = born_some (b' f) (r, c) here in record {
          fits = each_insert (NoteFits b' f ns') i (each_map (NoteFits b f ns) (NoteFits b' f ns') ns (fits_grows b b' f f ns ns' (omega arith) keeps (grown i)) h.fits) here;
          births = λ g x e. dite (ℕ_discrete g f)
              (λ q. let y : (r, c) ≡ x = some-injective (r, c) x (sym here ∙ (ap b' (sym q) ∙ e)) in let z : r ≡ x.0 = ap (λ (k : ℕ × C). k.0) y in (omega arith, inr (q, some_state)))
              (λ n. let t = h.births g x (sym (else g n) ∙ e) in (t.0, ⊎_elim (λ a. inl a) (λ a. absurd (n a.0)) t.1));
          apart = λ g k x y e u lt. dite (ℕ_discrete k f)
              (λ q. let t = h.births g x (sym (else g (λ z. omega arith)) ∙ e) in ⊎_elim (λ a. omega arith) (λ a. let z = a.0 in absurd (omega arith)) t.1)
              (λ n. let later : b k ≡ some y = sym (else k n) ∙ u in dite (ℕ_discrete g f)
              (λ q. absurd (not_yet k (inl (omega arith)) y later))
              (λ m. h.apart g k x y (sym (else g m) ∙ e) later lt));
          made = λ g. let a = h.made g in dite (ℕ_discrete g f)
              (λ q. let z = ap (λ k. born (b' k)) q in let y = ap (λ k. born (b k)) q in let u = only-at g f (sym q) in omega (arith, total_insert i (is_made g)))
              (λ n. let z = ap born (else g n) in let u = only-else g f (λ q. n (sym q)) in omega (arith, total_insert i (is_made g)));
          ended_past = λ g lt. let a = h.ended_past g lt in let z = ap born (else g (λ q. omega arith)) in omega (arith, total_insert i (is_ended g));
          ended_not = λ g le. let a = h.ended_not g le in omega (arith, total_insert i (is_ended g));
          attempt_once = λ g n. let a = h.attempt_once g n in omega (arith, total_insert i (is_attempt g n));
          one_by_one = λ g n some_. let a = h.one_by_one g n (omega (arith, total_insert i (is_attempt g n))) in (a.0, λ m p lt. let y = a.1 m p lt in omega (arith, total_insert i (is_attempt g m)));
          unborn = λ g n. dite (ℕ_discrete g f)
              (λ q. let z = ap (λ k. born (b' k)) q in absurd (omega arith))
              (λ m. let z = ap born (else g m) in let a = h.unborn g (omega arith) in omega (arith, total_insert i (is_advance g)));
          ended_at = λ g n m some_ lt. let a = h.ended_at g n m (omega (arith, total_insert i (is_ended_at g n))) lt in omega (arith, total_insert i (is_attempt g m));
        }

    pub story_ended : (x : ℕ × C) → b f ≡ some x → (at f' : ℕ) (ns' : List (Note C)) → f' ≡ f + x.0 → ((m : ℕ) → at < m → total (is_attempt f m) ns ≡ 0) → Inserted ns ns' (Ended f at) → Story b f' 0 ns'
    story_ended x has at f' ns' up beyond i =
        let one = (h.births f x has).0 in
        let here : born (b f) ≡ 1 = born_some (b f) x has in record {
          fits = each_insert (NoteFits b f' ns') i (each_map (NoteFits b f ns) (NoteFits b f' ns') ns (fits_grows b b f f' ns ns' (omega arith) (λ g y e. e) (grown i)) h.fits) (let z : f < f' = omega arith in z);
          births = λ g y e. let t = h.births g y e in (t.0, inl (⊎_elim (λ a. omega arith) (λ a. let q : x ≡ y = some-injective x y (sym has ∙ (ap b (sym a.0) ∙ e)) in let z : x.0 ≡ y.0 = ap (λ (k : ℕ × C). k.0) q in let w = a.0 in omega arith) t.1));
          apart = h.apart;
          made = λ g. let a = h.made g in omega (arith, total_insert i (is_made g));
          ended_past = λ g lt. dite (ℕ_discrete g f)
              (λ q. let a = h.ended_not g (omega arith) in let z = ap (λ k. born (b k)) q in let u = only-at g f (sym q) in omega (arith, total_insert i (is_ended g)))
              (λ n. let u = only-else g f (λ q. n (sym q)) in dite (dec_le f g)
              (λ le. let z = born_none (b g) (not_yet g (inl (omega arith))) in let a = h.ended_not g le in omega (arith, total_insert i (is_ended g)))
              (λ nle. let a = h.ended_past g (lt_of_not-le nle) in omega (arith, total_insert i (is_ended g))));
          ended_not = λ g le. let a = h.ended_not g (omega arith) in let u = only-else g f (λ q. omega arith) in omega (arith, total_insert i (is_ended g));
          attempt_once = λ g n. let a = h.attempt_once g n in omega (arith, total_insert i (is_attempt g n));
          one_by_one = λ g n some_. let a = h.one_by_one g n (omega (arith, total_insert i (is_attempt g n))) in (a.0, λ m p lt. let y = a.1 m p lt in omega (arith, total_insert i (is_attempt g m)));
          unborn = λ g n. let a = h.unborn g n in omega (arith, total_insert i (is_advance g));
          ended_at = λ g n m some_ lt. dite (ℕ_discrete g f)
              (λ q. dite (ℕ_discrete n at)
              (λ e. let a = beyond m (omega arith) in let z = ap (λ j. total (is_attempt j m) ns) q in omega (arith, total_insert i (is_attempt g m)))
              (λ e. let u = pair-else g n f at (λ y. e (sym y)) in let a = h.ended_at g n m (omega (arith, total_insert i (is_ended_at g n))) lt in omega (arith, total_insert i (is_attempt g m))))
              (λ q. let u = pair-else_first g n f at (λ e. q (sym e)) in let a = h.ended_at g n m (omega (arith, total_insert i (is_ended_at g n))) lt in omega (arith, total_insert i (is_attempt g m)));
        }

    pub story_attempt : born (b f) ≡ 1 → (n : ℕ) (ns' : List (Note C)) → total (is_attempt f n) ns ≡ 0 → 0 < n → ((m : ℕ) → 0 < m → m < n → 0 < total (is_attempt f m) ns) → Inserted ns ns' (Attempt f n) → Story b f s ns'
    story_attempt is n ns' none_yet later before i = record {
      fits = each_insert (NoteFits b f ns') i (each_map (NoteFits b f ns) (NoteFits b f ns') ns (fits_grows b b f f ns ns' (omega arith) (λ g y e. e) (grown i)) h.fits) is;
      births = h.births;
      apart = h.apart;
      made = λ g. let a = h.made g in omega (arith, total_insert i (is_made g));
      ended_past = λ g lt. let a = h.ended_past g lt in omega (arith, total_insert i (is_ended g));
      ended_not = λ g le. let a = h.ended_not g le in omega (arith, total_insert i (is_ended g));
      attempt_once = λ g m. let a = h.attempt_once g m in dite (ℕ_discrete g f)
          (λ q. dite (ℕ_discrete m n)
          (λ p. let z = ap (λ k. total (is_attempt k n) ns) q in let y = ap (λ k. total (is_attempt g k) ns) p in let u = pair-at g m f n (sym q) (sym p) in omega (arith, total_insert i (is_attempt g m)))
          (λ p. let u = pair-else g m f n (λ e. p (sym e)) in omega (arith, total_insert i (is_attempt g m))))
          (λ q. let u = pair-else_first g m f n (λ e. q (sym e)) in omega (arith, total_insert i (is_attempt g m)));
      one_by_one = λ g m some_. dite (ℕ_discrete g f)
          (λ q. dite (ℕ_discrete m n)
          (λ p. (omega arith, λ k pk lt. let y = before k pk (omega arith) in let z = ap (λ j. total (is_attempt j k) ns) q in omega (arith, total_insert i (is_attempt g k))))
          (λ p. let u = pair-else g m f n (λ e. p (sym e)) in let a = h.one_by_one g m (omega (arith, total_insert i (is_attempt g m))) in (a.0, λ k pk lt. let y = a.1 k pk lt in omega (arith, total_insert i (is_attempt g k)))))
          (λ q. let u = pair-else_first g m f n (λ e. q (sym e)) in let a = h.one_by_one g m (omega (arith, total_insert i (is_attempt g m))) in (a.0, λ k pk lt. let y = a.1 k pk lt in omega (arith, total_insert i (is_attempt g k))));
      unborn = λ g z. let a = h.unborn g z in let u = only-else g f (λ q. let y = ap (λ k. born (b k)) q in omega arith) in omega (arith, total_insert i (is_advance g));
      ended_at = λ g k m some_ lt. dite (ℕ_discrete g f)
          (λ q. absurd (let z = h.ended_not g (omega arith) in let le = ends_le g k ns in omega (arith, total_insert i (is_ended_at g k))))
          (λ q. let u = pair-else_first g m f n (λ e. q (sym e)) in let a = h.ended_at g k m (omega (arith, total_insert i (is_ended_at g k))) lt in omega (arith, total_insert i (is_attempt g m)));
    }
