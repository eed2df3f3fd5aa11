-- Lists that are put together of lists, by places.
use Rattle.std.proofs.Common.{◌≡◌, ℕ, zero, suc, ◌+◌, ◌<◌, ◌≤◌, ◌⊎◌, inl, inr, List, [], ◌∷◌, ◌++◌, length, length-append, append_assoc, flat_map, refl, sym, ap, ◌∙◌, arith}
use mathlib.Core.Option.{some, some-injective, some-ne-none}
use lib.ListN.{get_elem?}

module _ {A : Type 0} where
  pub append_cases : (l r : List A) (i : ℕ) (y : A) → get_elem? (l ++ r) i ≡ some y → (get_elem? l i ≡ some y) ⊎ ((j : ℕ) × (i ≡ length l + j) × (get_elem? r j ≡ some y))
  append_cases [] r i y e = inr (i, omega arith, e)
  append_cases (x ∷ xs) r zero y e = inl e
  append_cases (x ∷ xs) r (suc i) y e = elim (append_cases xs r i y e) [ inl h ↦ inl h | inr w ↦ inr (w.0, (let q = w.1 in omega arith), w.2) ]

  pub append_later : (l r : List A) (j : ℕ) (y : A) → get_elem? r j ≡ some y → get_elem? (l ++ r) (length l + j) ≡ some y
  append_later [] r j y e = let q : 0 + j ≡ j = omega arith in ap (get_elem? r) q ∙ e
  append_later (x ∷ xs) r j y e = let q : length (x ∷ xs) + j ≡ suc (length xs + j) = omega arith in ap (get_elem? (x ∷ xs ++ r)) q ∙ append_later xs r j y e

  pub append_first : (l r : List A) (i : ℕ) (y : A) → get_elem? l i ≡ some y → get_elem? (l ++ r) i ≡ some y
  append_first [] r i y e = absurd (some-ne-none y (sym e))
  append_first (x ∷ xs) r zero y e = e
  append_first (x ∷ xs) r (suc i) y e = append_first xs r i y e

module _ {A B : Type 0} (f : A → List B) where
  -- where an element comes from
  abbrev pub From : List A → B → Type 0
  From xs y = (k : ℕ) × (x : A) × (get_elem? xs k ≡ some x) × (j : ℕ) × (get_elem? (f x) j ≡ some y)

  pub flat_from : (xs : List A) (m : ℕ) (y : B) → get_elem? (flat_map f xs) m ≡ some y → From xs y
  flat_from [] m y e = absurd (some-ne-none y (sym e))
  flat_from (x ∷ xs) m y e = elim (append_cases (f x) (flat_map f xs) m y e) [
    | inl h ↦ (zero, x, refl, m, h)
    | inr w ↦ (let r = flat_from xs w.0 y w.2 in (suc r.0, r.1, r.2, r.3, r.4))
  ]

  pub flat_there : (xs : List A) (k : ℕ) (x : A) (j : ℕ) (y : B) → get_elem? xs k ≡ some x → get_elem? (f x) j ≡ some y → (m : ℕ) × (get_elem? (flat_map f xs) m ≡ some y)
  flat_there [] k x j y e h = absurd (some-ne-none x (sym e))
  flat_there (z ∷ zs) zero x j y e h = (j, append_first (f z) (flat_map f zs) j y (ap (λ w. get_elem? (f w) j) (some-injective z x e) ∙ h))
  flat_there (z ∷ zs) (suc k) x j y e h = let r = flat_there zs k x j y e h in (length (f z) + r.0, append_later (f z) (flat_map f zs) r.0 y r.1)

  module _ (small : (x : A) → length (f x) ≤ 1) where
    at_most : (l : List B) (i : ℕ) (y : B) → length l ≤ 1 → get_elem? l i ≡ some y → i ≡ 0
    at_most [] i y le e = absurd (some-ne-none y (sym e))
    at_most (x ∷ xs) zero y le e = refl
    at_most (x ∷ []) (suc i) y le e = absurd (some-ne-none y (sym e))
    at_most (x ∷ z ∷ xs) (suc i) y le e = absurd (omega arith)

    inside : (l : List B) (i : ℕ) (y : B) → get_elem? l i ≡ some y → i < length l
    inside [] i y e = absurd (some-ne-none y (sym e))
    inside (x ∷ xs) zero y e = omega arith
    inside (x ∷ xs) (suc i) y e = let a = inside xs i y e in omega arith

    abbrev pub Rises : List A → B → B → Type 0
    Rises xs y z = (k l : ℕ) × (x w : A) × (k < l) × (get_elem? xs k ≡ some x) × (get_elem? xs l ≡ some w) × (get_elem? (f x) 0 ≡ some y) × (get_elem? (f w) 0 ≡ some z)

    -- the later of two elements comes from a later one
    pub flat_rises : (xs : List A) (i j : ℕ) (y z : B) → i < j → get_elem? (flat_map f xs) i ≡ some y → get_elem? (flat_map f xs) j ≡ some z → Rises xs y z
    flat_rises [] i j y z less e h = absurd (some-ne-none y (sym e))
    flat_rises (x ∷ xs) i j y z less e h = by_cases (append_cases (f x) (flat_map f xs) i y e) (append_cases (f x) (flat_map f xs) j z h) (flat_rises xs)
      where
        by_cases : (get_elem? (f x) i ≡ some y) ⊎ ((m : ℕ) × (i ≡ length (f x) + m) × (get_elem? (flat_map f xs) m ≡ some y)) → (get_elem? (f x) j ≡ some z) ⊎ ((m : ℕ) × (j ≡ length (f x) + m) × (get_elem? (flat_map f xs) m ≡ some z))
            → ((i j : ℕ) (y z : B) → i < j → get_elem? (flat_map f xs) i ≡ some y → get_elem? (flat_map f xs) j ≡ some z → Rises xs y z) → Rises (x ∷ xs) y z
        by_cases (inl a) (inl b) again = absurd (let p = at_most (f x) i y (small x) a in let q = at_most (f x) j z (small x) b in omega arith)
        by_cases (inl a) (inr w) again = let p = at_most (f x) i y (small x) a in let r = flat_from xs w.0 z w.2 in let q = at_most (f r.1) r.3 z (small r.1) r.4 in
            (zero, suc r.0, x, r.1, omega arith, refl, r.2, ap (get_elem? (f x)) (sym p) ∙ a, ap (get_elem? (f r.1)) (sym q) ∙ r.4)
        by_cases (inr v) (inl b) again = absurd (let q = inside (f x) j z b in let a = v.1 in omega arith)
        by_cases (inr v) (inr w) again = let r = again v.0 w.0 y z (let a = v.1 in let b = w.1 in omega arith) v.2 w.2 in (suc r.0, suc r.1, r.2, r.3, (let l = r.4 in omega arith), r.5, r.6, r.7, r.8)

-- ## Two that are put together alike

module _ {C : Type 0} where
  same_first : (a b : List C) (c d : List C) → length a ≡ length b → a ++ c ≡ b ++ d → (a ≡ b) × (c ≡ d)
  same_first [] [] c d long e = (refl, e)
  same_first [] (y ∷ ys) c d long e = absurd (omega arith)
  same_first (x ∷ xs) [] c d long e = absurd (omega arith)
  same_first (x ∷ xs) (y ∷ ys) c d long e = let h : x ≡ y = head_same e in let t : xs ++ c ≡ ys ++ d = tail_same e in let r = same_first xs ys c d (omega arith) t in ((λ i. h i ∷ r.0 i), r.1)
    where
      head_same : {x y : C} {s t : List C} → x ∷ s ≡ y ∷ t → x ≡ y
      head_same e = cc

      tail_same : {x y : C} {s t : List C} → x ∷ s ≡ y ∷ t → s ≡ t
      tail_same e = cc

  -- where the parts at each place are as long, they are the same
  pub flat_same : {A B : Type 0} (f : A → List C) (g : B → List C) (xs : List A) (ys : List B) → length xs ≡ length ys → ((k : ℕ) (x : A) (y : B) → get_elem? xs k ≡ some x → get_elem? ys k ≡ some y → length (f x) ≡ length (g y))
      → flat_map f xs ≡ flat_map g ys → (k : ℕ) (x : A) (y : B) → get_elem? xs k ≡ some x → get_elem? ys k ≡ some y → f x ≡ g y
  flat_same f g [] ys long each e k x y at bt = absurd (some-ne-none x (sym at))
  flat_same f g (a ∷ as_) [] long each e k x y at bt = absurd (omega arith)
  flat_same f g (a ∷ as_) (b ∷ bs) long each e zero x y at bt = ap f (sym (some-injective a x at)) ∙ ((same_first (f a) (g b) (flat_map f as_) (flat_map g bs) (each zero a b refl refl) e).0 ∙ ap g (some-injective b y bt))
  flat_same f g (a ∷ as_) (b ∷ bs) long each e (suc k) x y at bt = flat_same f g as_ bs (omega arith) (λ j u v h i. each (suc j) u v h i) (same_first (f a) (g b) (flat_map f as_) (flat_map g bs) (each zero a b refl refl) e).1 k x y at bt

  pub flat_long : {A B : Type 0} (f : A → List C) (g : B → List C) (xs : List A) (ys : List B) → length xs ≡ length ys → ((k : ℕ) (x : A) (y : B) → get_elem? xs k ≡ some x → get_elem? ys k ≡ some y → length (f x) ≡ length (g y)) → length (flat_map f xs) ≡ length (flat_map g ys)
  flat_long f g [] [] long each = refl
  flat_long f g [] (b ∷ bs) long each = absurd (omega arith)
  flat_long f g (a ∷ as_) [] long each = absurd (omega arith)
  flat_long f g (a ∷ as_) (b ∷ bs) long each = omega (arith, length-append (f a) (flat_map f as_), length-append (g b) (flat_map g bs), each zero a b refl refl, flat_long f g as_ bs (omega arith) (λ j u v h i. each (suc j) u v h i))

pub flat-append : {A B : Type 0} (f : A → List B) (l m : List A) → flat_map f (l ++ m) ≡ flat_map f l ++ flat_map f m
flat-append f [] m = refl
flat-append f (x ∷ xs) m = ap (λ l. f x ++ l) (flat-append f xs m) ∙ sym (append_assoc (f x) (flat_map f xs) (flat_map f m))

module _ {A B : Type 0} (f : A → List B) where
  -- what comes from an earlier element stands before what comes from a later one
  pub flat_places : (xs : List A) (j k m n : ℕ) (x w : A) (y z : B) → j < k → get_elem? xs j ≡ some x → get_elem? xs k ≡ some w → get_elem? (f x) m ≡ some y → get_elem? (f w) n ≡ some z
      → (i l : ℕ) × (i < l) × (get_elem? (flat_map f xs) i ≡ some y) × (get_elem? (flat_map f xs) l ≡ some z)
  flat_places [] j k m n x w y z less e h a b = absurd (some-ne-none x (sym e))
  flat_places (v ∷ vs) j zero m n x w y z less e h a b = absurd (omega arith)
  flat_places (v ∷ vs) zero (suc k) m n x w y z less e h a b =
      let here : get_elem? (f v) m ≡ some y = ap (λ u. get_elem? (f u) m) (some-injective v x e) ∙ a in
      let r = flat_there f vs k w n z h b in
      (m, length (f v) + r.0, omega (arith, low (f v) m y here), append_first (f v) (flat_map f vs) m y here, append_later (f v) (flat_map f vs) r.0 z r.1)
    where
      low : {C : Type 0} (l : List C) (i : ℕ) (c : C) → get_elem? l i ≡ some c → i < length l
      low [] i c at = absurd (some-ne-none c (sym at))
      low (c ∷ cs) zero d at = omega arith
      low (c ∷ cs) (suc i) d at = let q = low cs i d at in omega arith
  flat_places (v ∷ vs) (suc j) (suc k) m n x w y z less e h a b =
      let r = flat_places vs j k m n x w y z (omega arith) e h a b in
      (length (f v) + r.0, length (f v) + r.1, (let q = r.2 in omega arith), append_later (f v) (flat_map f vs) r.0 y r.3, append_later (f v) (flat_map f vs) r.1 z r.4)
