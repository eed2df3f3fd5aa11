-- Lists by their places: equal ones, mapped ones, those that are made of lists, and counts.
use Rattle.std.proofs.Common.{◌≡◌, ℕ, zero, suc, ◌+◌, ◌<◌, ◌≤◌, ◌⊎◌, inl, inr, Bool, true, not, cond, nat_le, List, [], ◌∷◌, ◌++◌, length, map, flat_map, sum_by, count_by, slice_get, Some, None, refl, ap, sym, ◌∙◌, arith}
use Rattle.std.proofs.lemmas.Bool.Decides.{nat_tests}
use Rattle.std.proofs.lemmas.List.Sums.{sum_by-cons}
use Rattle.std.proofs.lemmas.List.{length-append}
use Rattle.std.specs.List.{AllByRecursion}
use Rattle.brpc_model.specs.Order.{EachBefore}
use Rattle.seat_programs.specs.ScheduledRuns.{from_to}
use Rattle.script_facts.proofs.FilteredLists.{Has, has_first, has_later, has_none, some_is, all_from}

-- ## Equal lists

-- lists with the same elements at each place are equal
pub same_places : {A : Type 0} (xs ys : List A) → ((i : ℕ) (x : A) → slice_get xs i ≡ Some x → slice_get ys i ≡ Some x) → ((i : ℕ) (x : A) → slice_get ys i ≡ Some x → slice_get xs i ≡ Some x) → xs ≡ ys
same_places [] [] h g = refl
same_places [] (y ∷ ys) h g = let e : None ≡ Some y = g 0 y refl in absurd (cc)
same_places (x ∷ xs) [] h g = let e : None ≡ Some x = h 0 x refl in absurd (cc)
same_places {A} (x ∷ xs) (y ∷ ys) h g = ap (λ (z : A). z ∷ xs) (sym (some_is y x (h 0 x refl))) ∙ ap (λ (zs : List A). y ∷ zs) (same_places xs ys (λ i z e. h (suc i) z e) (λ i z e. g (suc i) z e))

-- ## Mapped lists

pub map_at : {A B : Type 0} (f : A → B) (xs : List A) (i : ℕ) (x : A) → slice_get xs i ≡ Some x → slice_get (map f xs) i ≡ Some (f x)
map_at f [] i x e = absurd (cc)
map_at f (y ∷ ys) zero x e = ap (λ z. Some (f z)) (some_is y x e)
map_at f (y ∷ ys) (suc i) x e = map_at f ys i x e

pub at_map : {A B : Type 0} (f : A → B) (xs : List A) (i : ℕ) (y : B) → slice_get (map f xs) i ≡ Some y → (x : A) × (slice_get xs i ≡ Some x) × (f x ≡ y)
at_map f [] i y e = absurd (cc)
at_map f (x ∷ xs) zero y e = (x, refl, some_is (f x) y e)
at_map f (x ∷ xs) (suc i) y e = at_map f xs i y e

-- functions that agree on the elements
pub map_same : {A B : Type 0} (f g : A → B) (xs : List A) → ((x : A) → Has xs x → f x ≡ g x) → map f xs ≡ map g xs
map_same f g [] h = refl
map_same {B = B} f g (x ∷ xs) h = ap (λ (y : B). y ∷ map f xs) (h x (has_first x xs)) ∙ ap (λ (ys : List B). g x ∷ ys) (map_same f g xs (λ y k. h y (has_later x xs y k)))

pub map_map : {A B C : Type 0} (f : A → B) (g : B → C) (xs : List A) → map g (map f xs) ≡ map (λ x. g (f x)) xs
map_map f g [] = refl
map_map {C = C} f g (x ∷ xs) = ap (λ (ys : List C). g (f x) ∷ ys) (map_map f g xs)

-- ## Numbers

pub from_to_at : (a n i : ℕ) → i < n → slice_get (from_to a n) i ≡ Some (a + i)
from_to_at a zero i h = absurd (omega (arith, h))
from_to_at a (suc n) zero h = let same : a ≡ a + 0 = omega arith in ap Some same
from_to_at a (suc n) (suc i) h = let same : (a + 1) + i ≡ a + suc i = omega arith in from_to_at (a + 1) n i (omega (arith, h)) ∙ ap Some same

pub from_to_length : (a n : ℕ) → length (from_to a n) ≡ n
from_to_length a zero = refl
from_to_length a (suc n) = ap suc (from_to_length (a + 1) n)

-- ## Lists made of lists

pub has_append : {A : Type 0} (xs ys : List A) (x : A) → Has (xs ++ ys) x → Has xs x ⊎ Has ys x
has_append [] ys x h = inr h
has_append (z ∷ xs) ys x (zero, e) = inl (zero, e)
has_append (z ∷ xs) ys x (suc k, e) = later (has_append xs ys x (k, e))
  where
    later : Has xs x ⊎ Has ys x → Has (z ∷ xs) x ⊎ Has ys x
    later (inl h) = inl (has_later z xs x h)
    later (inr h) = inr h

-- an element of it stands at a place of one of them
abbrev pub IsIn : {A B : Type 0} → (A → List B) → List A → B → Type 0
IsIn {A} f xs b = (i j : ℕ) × (x : A) × (slice_get xs i ≡ Some x) × (slice_get (f x) j ≡ Some b)

pub flat_has : {A B : Type 0} (f : A → List B) (xs : List A) (b : B) → Has (flat_map f xs) b → IsIn f xs b
flat_has f [] b h = absurd (has_none b h)
flat_has f (x ∷ xs) b h = by_part (flat_has f xs b) (has_append (f x) (flat_map f xs) b h)
  where
    by_part : (Has (flat_map f xs) b → IsIn f xs b) → Has (f x) b ⊎ Has (flat_map f xs) b → IsIn f (x ∷ xs) b
    by_part again (inl g) = (zero, g.0, x, refl, g.1)
    by_part again (inr g) = let w = again g in (suc w.0, w.1, w.2, w.3, w.4)

all_append : {A : Type 0} (P : A → Type 0) (xs ys : List A) → AllByRecursion P xs → AllByRecursion P ys → AllByRecursion P (xs ++ ys)
all_append P [] ys a b = b
all_append P (x ∷ xs) ys a b = (a.0, all_append P xs ys a.1 b)

before_append : {A : Type 0} (S : A → A → Type 0) (xs ys : List A) → EachBefore S xs → EachBefore S ys → ((x y : A) → Has xs x → Has ys y → S x y) → EachBefore S (xs ++ ys)
before_append S [] ys a b c = b
before_append S (x ∷ xs) ys a b c = (all_append (S x) xs ys a.0 (all_from (S x) ys (λ y g. c x y (has_first x xs) g)), before_append S xs ys a.1 b (λ y z g h. c y z (has_later x xs y g) h))

-- each element of it stands in S to each later one, where the elements at any two places do
pub flat_before : {A B : Type 0} (S : B → B → Type 0) (f : A → List B) (xs : List A) → ((i : ℕ) (x : A) → slice_get xs i ≡ Some x → EachBefore S (f x)) →
    ((i j k l : ℕ) (x y : A) (b c : B) → i < j → slice_get xs i ≡ Some x → slice_get xs j ≡ Some y → slice_get (f x) k ≡ Some b → slice_get (f y) l ≡ Some c → S b c) →
    EachBefore S (flat_map f xs)
flat_before S f [] own other = tt
flat_before S f (x ∷ xs) own other = before_append S (f x) (flat_map f xs) (own zero x refl)
    (flat_before S f xs (λ i y e. own (suc i) y e) (λ i j k l y z b c less e g h m. other (suc i) (suc j) k l y z b c (omega (arith, less)) e g h m))
    (λ b c g h. let w = flat_has f xs c h in other zero (suc w.0) g.0 w.1 x w.2 b c (omega arith) refl w.3 g.1 w.4)

pub flat_length : {A B : Type 0} (f : A → List B) (xs : List A) → length (flat_map f xs) ≡ sum_by (λ x. length (f x)) xs
flat_length f [] = refl
flat_length f (x ∷ xs) = omega (arith, length-append (f x) (flat_map f xs), flat_length f xs, sum_by-cons (λ y. length (f y)) x xs)

pub sum_map : {A B : Type 0} (f : A → B) (g : B → ℕ) (xs : List A) → sum_by g (map f xs) ≡ sum_by (λ x. g (f x)) xs
sum_map f g [] = refl
sum_map f g (x ∷ xs) = omega (arith, sum_by-cons g (f x) (map f xs), sum_by-cons (λ y. g (f y)) x xs, sum_map f g xs)

-- ## Counts

-- where those that pass are the first n
pub count_first : {A : Type 0} (test : A → Bool) (xs : List A) (n : ℕ) → n ≤ length xs → ((i : ℕ) (x : A) → slice_get xs i ≡ Some x → test x ≡ not (nat_le n i)) → count_by test xs ≡ n
count_first test [] n few h = omega (arith, few)
count_first test (x ∷ xs) zero few h =
    let here : cond {A = ℕ} (test x) 1 0 ≡ 0 = ap {B = ℕ} (λ b. cond b 1 0) (h zero x refl) in
    let zero_ : (i : ℕ) → not (nat_le zero (suc i)) ≡ not (nat_le zero i) = λ i. grind (arith, nat_tests) in
    omega (arith, here, count_first test xs zero (omega arith) (λ i y e. h (suc i) y e ∙ zero_ i), sum_by-cons (λ y. cond (test y) 1 0) x xs)
count_first test (x ∷ xs) (suc n) few h =
    let first : not (nat_le (suc n) zero) ≡ true = grind (arith, nat_tests) in
    let here : cond {A = ℕ} (test x) 1 0 ≡ 1 = ap {B = ℕ} (λ b. cond b 1 0) (h zero x refl ∙ first) in
    let later : (i : ℕ) → not (nat_le (suc n) (suc i)) ≡ not (nat_le n i) = λ i. grind (arith, nat_tests) in
    omega (arith, here, count_first test xs n (omega (arith, few)) (λ i y e. h (suc i) y e ∙ later i), sum_by-cons (λ y. cond (test y) 1 0) x xs)

-- sums of the same numbers at each place
pub sum_places : {A : Type 0} (f : A → ℕ) (g : ℕ → ℕ) (xs : List A) (a n : ℕ) → length xs ≡ n → ((i : ℕ) (x : A) → slice_get xs i ≡ Some x → f x ≡ g (a + i)) → sum_by f xs ≡ sum_by g (from_to a n)
sum_places f g [] a zero e h = refl
sum_places f g [] a (suc n) e h = absurd (omega (arith, e))
sum_places f g (x ∷ xs) a zero e h = absurd (omega (arith, e))
sum_places f g (x ∷ xs) a (suc n) e h =
    let first : a + 0 ≡ a = omega arith in
    let next : (i : ℕ) → a + suc i ≡ (a + 1) + i = λ i. omega arith in
    let again = sum_places f g xs (a + 1) n (omega (arith, e)) (λ i y k. h (suc i) y k ∙ ap g (next i)) in
    omega (arith, again, h zero x refl ∙ ap g first, sum_by-cons f x xs, sum_by-cons g a (from_to (a + 1) n))

pub flat_of_map : {A B : Type 0} (f : A → List B) (xs : List A) → flat_map (λ (bytes : List B). bytes) (map f xs) ≡ flat_map f xs
flat_of_map f [] = refl
flat_of_map f (x ∷ xs) = ap (λ ys. f x ++ ys) (flat_of_map f xs)
