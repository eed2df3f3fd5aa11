-- Lists that are merged into one order: by places, and what is left of them by a filter.
use Rattle.std.proofs.Common.{◌≡◌, ◌≢◌, ℕ, zero, suc, ◌<◌, Bool, true, false, cond, eqb, eq-eqb, ne_eqb, List, [], ◌∷◌, ◌++◌, length, map, flat_map, refl, sym, ap, ◌∙◌, arith}
use Rattle.std.specs.List.{filter}
use mathlib.Core.Logic.{dite}
use Rattle.std.proofs.lemmas.List.{length-map}
use mathlib.Core.Option.{some, some-injective, some-ne-none}
use native.Mathlib.Decide.{ℕ_discrete}
use lib.ListN.{get_elem?}
use Rattle.chain_orders.specs.ListsInOneOrder.{part_of, AreMerged}

-- ## Places of lists that are mapped

module _ {A B : Type 0} (f : A → B) where
  pub map_there : (xs : List A) (k : ℕ) (x : A) → get_elem? xs k ≡ some x → get_elem? (map f xs) k ≡ some (f x)
  map_there [] k x e = absurd (some-ne-none x (sym e))
  map_there (y ∷ ys) zero x e = ap (λ z. some (f z)) (some-injective y x e)
  map_there (y ∷ ys) (suc k) x e = map_there ys k x e

  pub map_back : (xs : List A) (k : ℕ) (b : B) → get_elem? (map f xs) k ≡ some b → (x : A) × (get_elem? xs k ≡ some x) × (f x ≡ b)
  map_back [] k b e = absurd (some-ne-none b (sym e))
  map_back (y ∷ ys) zero b e = (y, refl, some-injective (f y) b e)
  map_back (y ∷ ys) (suc k) b e = map_back ys k b e

  pub map_append : (xs ys : List A) → map f (xs ++ ys) ≡ map f xs ++ map f ys
  map_append [] ys = refl
  map_append (x ∷ xs) ys = ap (λ l. f x ∷ l) (map_append xs ys)

  -- what a filter keeps of a list that is mapped
  pub filter_map : (p : B → Bool) (xs : List A) → filter p (map f xs) ≡ map f (filter (λ x. p (f x)) xs)
  filter_map p [] = refl
  filter_map p (x ∷ xs) = elim (p (f x)) as (λ t. cond t (f x ∷ filter p (map f xs)) (filter p (map f xs)) ≡ map f (cond t (x ∷ filter (λ x. p (f x)) xs) (filter (λ x. p (f x)) xs))) [
    | true ↦ ap (λ l. f x ∷ l) (filter_map p xs)
    | false ↦ filter_map p xs
  ]

module _ {A B C : Type 0} (g : B → C) where
  pub map_map : (f : A → B) (xs : List A) → map g (map f xs) ≡ map (λ x. g (f x)) xs
  map_map f [] = refl
  map_map f (x ∷ xs) = ap (λ l. g (f x) ∷ l) (map_map f xs)

  pub flat_map_map : (f : A → List B) (xs : List A) → flat_map (λ x. map g (f x)) xs ≡ map g (flat_map f xs)
  flat_map_map f [] = refl
  flat_map_map f (x ∷ xs) = ap (λ l. map g (f x) ++ l) (flat_map_map f xs) ∙ sym (map_append g (f x) (flat_map f xs))

-- ## Parts

module _ {A : Type 0} where
  pub part_here : (c b : ℕ) (bs : List ℕ) (x : A) (xs : List A) → b ≡ c → part_of c (b ∷ bs) (x ∷ xs) ≡ x ∷ part_of c bs xs
  part_here c b bs x xs is = ap (λ t. cond t (x ∷ part_of c bs xs) (part_of c bs xs)) (eq-eqb b c is)

  pub part_other : (c b : ℕ) (bs : List ℕ) (x : A) (xs : List A) → b ≢ c → part_of c (b ∷ bs) (x ∷ xs) ≡ part_of c bs xs
  part_other c b bs x xs ne = ap (λ t. cond t (x ∷ part_of c bs xs) (part_of c bs xs)) (ne_eqb b c ne)

  -- the numbers beside the elements that a filter keeps
  abbrev beside : (A → Bool) → List ℕ → List A → List ℕ
  beside p [] xs = []
  beside p (b ∷ bs) [] = []
  beside p (b ∷ bs) (x ∷ xs) = cond (p x) (b ∷ beside p bs xs) (beside p bs xs)

  kept_part : (p : A → Bool) (c : ℕ) (by : List ℕ) (xs : List A) → part_of c (beside p by xs) (filter p xs) ≡ filter p (part_of c by xs)
  kept_part p c [] xs = refl
  kept_part p c (b ∷ bs) [] = refl
  kept_part p c (b ∷ bs) (x ∷ xs) =
      let left = beside p bs xs in
      let kept = filter p xs in
      let own = part_of c bs xs in
      let again = kept_part p c bs xs in
      dite (ℕ_discrete b c)
      (λ is. both is left kept own again ∙ sym (ap (filter p) (part_here c b bs x xs is)))
      (λ ne. neither ne left kept own again ∙ sym (ap (filter p) (part_other c b bs x xs ne)))
    where
      both : b ≡ c → (left : List ℕ) (kept own : List A) → part_of c left kept ≡ filter p own → part_of c (cond (p x) (b ∷ left) left) (cond (p x) (x ∷ kept) kept) ≡ filter p (x ∷ own)
      both is left kept own again = elim (p x) as (λ t. part_of c (cond t (b ∷ left) left) (cond t (x ∷ kept) kept) ≡ cond t (x ∷ filter p own) (filter p own)) [
        | true ↦ part_here c b left x kept is ∙ ap (λ l. x ∷ l) again
        | false ↦ again
      ]

      neither : b ≢ c → (left : List ℕ) (kept own : List A) → part_of c left kept ≡ filter p own → part_of c (cond (p x) (b ∷ left) left) (cond (p x) (x ∷ kept) kept) ≡ filter p own
      neither ne left kept own again = elim (p x) as (λ t. part_of c (cond t (b ∷ left) left) (cond t (x ∷ kept) kept) ≡ filter p own) [
        | true ↦ part_other c b left x kept ne ∙ again
        | false ↦ again
      ]

  kept_long : (p : A → Bool) (by : List ℕ) (xs : List A) → length by ≡ length xs → length (beside p by xs) ≡ length (filter p xs)
  kept_long p [] [] e = refl
  kept_long p [] (x ∷ xs) e = absurd (omega arith)
  kept_long p (b ∷ bs) [] e = absurd (omega arith)
  kept_long p (b ∷ bs) (x ∷ xs) e = elim (p x) as (λ t. length (cond t (b ∷ beside p bs xs) (beside p bs xs)) ≡ length (cond t (x ∷ filter p xs) (filter p xs))) [
    | true ↦ ap suc (kept_long p bs xs (omega arith))
    | false ↦ kept_long p bs xs (omega arith)
  ]

  kept_from : (p : A → Bool) (by : List ℕ) (xs : List A) (q c : ℕ) → get_elem? (beside p by xs) q ≡ some c → (r : ℕ) × (get_elem? by r ≡ some c)
  kept_from p [] xs q c e = absurd (some-ne-none c (sym e))
  kept_from p (b ∷ bs) [] q c e = absurd (some-ne-none c (sym e))
  kept_from p (b ∷ bs) (x ∷ xs) q c e = by_cases (p x) q e (kept_from p bs xs)
    where
      by_cases : (t : Bool) (q : ℕ) → get_elem? (cond t (b ∷ beside p bs xs) (beside p bs xs)) q ≡ some c → ((q c : ℕ) → get_elem? (beside p bs xs) q ≡ some c → (r : ℕ) × (get_elem? bs r ≡ some c)) → (r : ℕ) × (get_elem? (b ∷ bs) r ≡ some c)
      by_cases true zero e again = (0, e)
      by_cases true (suc q) e again = let w = again q c e in (suc w.0, w.1)
      by_cases false q e again = let w = again q c e in (suc w.0, w.1)

  -- what a filter keeps of lists that are merged is merged
  pub merged_kept : (p : A → Bool) (lists : List (List A)) (order : List A) → AreMerged lists order → AreMerged (map (filter p) lists) (filter p order)
  merged_kept p lists order m = record {
    by = beside p m.by order;
    long = kept_long p m.by order m.long;
    inside = λ q c at. (let w = kept_from p m.by order q c at in let low = m.inside w.0 c w.1 in let n = length-map lists (filter p) in omega arith);
    own = λ c l at. (let w = map_back (filter p) lists c l at in kept_part p c m.by order ∙ (ap (filter p) (m.own c w.0 w.1) ∙ w.2));
  }

-- ## Numbers for names

-- where a name stands first
abbrev pub place_in : List ℕ → ℕ → ℕ
place_in [] a = 0
place_in (x ∷ xs) a = cond (eqb x a) 0 (suc (place_in xs a))

pub place_there : (names : List ℕ) (a i : ℕ) → get_elem? names i ≡ some a → get_elem? names (place_in names a) ≡ some a
place_there [] a i e = absurd (some-ne-none a (sym e))
place_there (x ∷ xs) a i e = dite (ℕ_discrete x a)
    (λ is. ap (λ t. get_elem? (x ∷ xs) (cond t 0 (suc (place_in xs a)))) (eq-eqb x a is) ∙ ap some is)
    (λ ne. ap (λ t. get_elem? (x ∷ xs) (cond t 0 (suc (place_in xs a)))) (ne_eqb x a ne) ∙ later i e ne (place_there xs a))
  where
    later : (i : ℕ) → get_elem? (x ∷ xs) i ≡ some a → x ≢ a → ((i : ℕ) → get_elem? xs i ≡ some a → get_elem? xs (place_in xs a) ≡ some a) → get_elem? xs (place_in xs a) ≡ some a
    later zero e ne again = absurd (ne (some-injective x a e))
    later (suc i) e ne again = again i e
