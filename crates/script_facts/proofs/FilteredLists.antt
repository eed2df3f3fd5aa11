-- Lists by their places: what a filter keeps, and what holds of each two elements.
use Rattle.std.proofs.Common.{◌≡◌, ℕ, zero, suc, ◌<◌, ◌≤◌, ◌⊎◌, inl, inr, Bool, true, false, ◌||◌, cond, List, [], ◌∷◌, length, filter, filter_map, slice_get, Option, Some, None, Contains, refl, ap, sym, ◌∙◌, subst, arith}
use Rattle.std.proofs.lemmas.Option.{slice_get-get_or, slice_get_within, get_or_from_slice_get}
use Rattle.std.specs.List.{AllByRecursion, cons_option}
use Rattle.brpc_model.specs.Order.{EachBefore}

pub some_is : {A : Type 0} (x y : A) → Some x ≡ Some y → x ≡ y
some_is x y e = cc

pub or_parts : (a b : Bool) → (a || b) ≡ false → (a ≡ false) × (b ≡ false)
or_parts false b e = (refl, e)
or_parts true b e = absurd (cc)

-- ## Membership by a place

abbrev pub Has : {A : Type 0} → List A → A → Type 0
Has xs x = (k : ℕ) × (slice_get xs k ≡ Some x)

pub has_from : {A : Type 0} (xs : List A) (x : A) → Contains xs x → Has xs x
has_from xs x h = (h.0, slice_get-get_or xs h.0 x h.1 ∙ ap Some h.2)

pub contains_from : {A : Type 0} (xs : List A) (x : A) → Has xs x → Contains xs x
contains_from xs x h = (h.0, slice_get_within xs h.0 x h.1, get_or_from_slice_get xs h.0 x x h.1)

pub has_later : {A : Type 0} (y : A) (xs : List A) (x : A) → Has xs x → Has (y ∷ xs) x
has_later y xs x h = (suc h.0, h.1)

pub has_first : {A : Type 0} (x : A) (xs : List A) → Has (x ∷ xs) x
has_first x xs = (zero, refl)

pub has_cases : {A : Type 0} (y : A) (xs : List A) (x : A) → Has (y ∷ xs) x → (y ≡ x) ⊎ Has xs x
has_cases y xs x (zero, e) = inl (some_is y x e)
has_cases y xs x (suc k, e) = inr (k, e)

pub has_none : {A : Type 0} (x : A) → Has [] x → ⊥
has_none x h = absurd (cc)

-- ## What a filter keeps

filter_step : {A : Type 0} (p : A → Bool) (y : A) (xs : List A) (x : A) (b : Bool) → p y ≡ b → (Has (filter p xs) x → Has xs x × (p x ≡ true)) → Has (cond b (y ∷ filter p xs) (filter p xs)) x → Has (y ∷ xs) x × (p x ≡ true)
filter_step p y xs x true e again h = filter_first (has_cases y (filter p xs) x h)
  where
    filter_first : (y ≡ x) ⊎ Has (filter p xs) x → Has (y ∷ xs) x × (p x ≡ true)
    filter_first (inl same) = ((zero, ap Some same), sym (ap p same) ∙ e)
    filter_first (inr later) = let w = again later in (has_later y xs x w.0, w.1)
filter_step p y xs x false e again h = let w = again h in (has_later y xs x w.0, w.1)

pub filter_has : {A : Type 0} (p : A → Bool) (xs : List A) (x : A) → Has (filter p xs) x → Has xs x × (p x ≡ true)
filter_has p [] x h = absurd (has_none x h)
filter_has p (y ∷ ys) x h = filter_step p y ys x (p y) refl (filter_has p ys x) h

kept_here : {A : Type 0} (p : A → Bool) (x : A) (ys : List A) (b : Bool) → b ≡ true → Has (cond b (x ∷ filter p ys) (filter p ys)) x
kept_here p x ys true e = has_first x (filter p ys)
kept_here p x ys false e = absurd (cc)

kept_later : {A : Type 0} (p : A → Bool) (y : A) (ys : List A) (x : A) (b : Bool) → Has (filter p ys) x → Has (cond b (y ∷ filter p ys) (filter p ys)) x
kept_later p y ys x true h = has_later y (filter p ys) x h
kept_later p y ys x false h = h

pub has_filter : {A : Type 0} (p : A → Bool) (xs : List A) (x : A) → Has xs x → p x ≡ true → Has (filter p xs) x
has_filter p [] x h e = absurd (has_none x h)
has_filter p (y ∷ ys) x (zero, f) e = let same = some_is y x f in let P : _ → Type 0 = λ z. Has (filter p (z ∷ ys)) x in subst P (sym same) (kept_here p x ys (p x) e)
has_filter p (y ∷ ys) x (suc k, f) e = kept_later p y ys x (p y) (has_filter p ys x (k, f) e)

-- ## What a filter makes

made_cases : {A B : Type 0} (f : A → Option B) (x : A) (xs : List A) (y z : B) → f x ≡ Some z → (Has (filter_map f xs) y → (v : A) × Has xs v × (f v ≡ Some y)) → (z ≡ y) ⊎ Has (filter_map f xs) y → (v : A) × Has (x ∷ xs) v × (f v ≡ Some y)
made_cases f x xs y z e again (inl same) = (x, has_first x xs, e ∙ ap Some same)
made_cases f x xs y z e again (inr later) = let w = again later in (w.0, has_later x xs w.0 w.1, w.2)

map_step : {A B : Type 0} (f : A → Option B) (x : A) (xs : List A) (y : B) (o : Option B) → f x ≡ o → (Has (filter_map f xs) y → (z : A) × Has xs z × (f z ≡ Some y)) → Has (cons_option o (filter_map f xs)) y → (z : A) × Has (x ∷ xs) z × (f z ≡ Some y)
map_step f x xs y None e again h = let w = again h in (w.0, has_later x xs w.0 w.1, w.2)
map_step f x xs y (Some z) e again h = made_cases f x xs y z e again (has_cases z (filter_map f xs) y h)

pub filter_map_has : {A B : Type 0} (f : A → Option B) (xs : List A) (y : B) → Has (filter_map f xs) y → (x : A) × Has xs x × (f x ≡ Some y)
filter_map_has f [] y h = absurd (has_none y h)
filter_map_has f (x ∷ xs) y h = map_step f x xs y (f x) refl (filter_map_has f xs y) h

made_later : {B : Type 0} (o : Option B) (ys : List B) (y : B) → Has ys y → Has (cons_option o ys) y
made_later None ys y h = h
made_later (Some z) ys y h = has_later z ys y h

made_here : {B : Type 0} (o : Option B) (ys : List B) (y : B) → o ≡ Some y → Has (cons_option o ys) y
made_here None ys y e = absurd (cc)
made_here (Some z) ys y e = (zero, e)

pub has_filter_map : {A B : Type 0} (f : A → Option B) (xs : List A) (x : A) (y : B) → Has xs x → f x ≡ Some y → Has (filter_map f xs) y
has_filter_map f [] x y h e = absurd (has_none x h)
has_filter_map f (z ∷ zs) x y (zero, g) e = made_here (f z) (filter_map f zs) y (ap f (some_is z x g) ∙ e)
has_filter_map f (z ∷ zs) x y (suc k, g) e = made_later (f z) (filter_map f zs) y (has_filter_map f zs x y (k, g) e)

-- ## All, and each before each

pub all_from : {A : Type 0} (P : A → Type 0) (xs : List A) → ((x : A) → Has xs x → P x) → AllByRecursion P xs
all_from P [] h = tt
all_from P (x ∷ xs) h = (h x (has_first x xs), all_from P xs (λ y g. h y (has_later x xs y g)))

pub all_at : {A : Type 0} (P : A → Type 0) (xs : List A) (x : A) → AllByRecursion P xs → Has xs x → P x
all_at P [] x h g = absurd (has_none x g)
all_at P (y ∷ ys) x h (zero, e) = subst P (some_is y x e) h.0
all_at P (y ∷ ys) x h (suc k, e) = all_at P ys x h.1 (k, e)

pub before_from : {A : Type 0} (R : A → A → Type 0) (xs : List A) → ((i j : ℕ) (x y : A) → i < j → slice_get xs i ≡ Some x → slice_get xs j ≡ Some y → R x y) → EachBefore R xs
before_from R [] h = tt
before_from R (x ∷ xs) h = (all_from (R x) xs (λ y g. h zero (suc g.0) x y (omega arith) refl g.1), before_from R xs (λ i j y z less e f. h (suc i) (suc j) y z (omega (arith, less)) e f))

pub before_at : {A : Type 0} (R : A → A → Type 0) (xs : List A) → EachBefore R xs → (i j : ℕ) (x y : A) → i < j → slice_get xs i ≡ Some x → slice_get xs j ≡ Some y → R x y
before_at R [] h i j x y less e f = absurd (cc)
before_at R (z ∷ zs) h i zero x y less e f = absurd (omega (arith, less))
before_at R (z ∷ zs) h zero (suc j) x y less e f = let P : _ → Type 0 = λ v. R v y in subst P (some_is z x e) (all_at (R z) zs y h.0 (j, f))
before_at R (z ∷ zs) h (suc i) (suc j) x y less e f = before_at R zs h.1 i j x y (omega (arith, less)) e f

pub all_map : {A : Type 0} (P Q : A → Type 0) → ((x : A) → P x → Q x) → (xs : List A) → AllByRecursion P xs → AllByRecursion Q xs
all_map P Q f [] h = tt
all_map P Q f (x ∷ xs) h = (f x h.0, all_map P Q f xs h.1)

pub before_map : {A : Type 0} (R S : A → A → Type 0) → ((x y : A) → R x y → S x y) → (xs : List A) → EachBefore R xs → EachBefore S xs
before_map R S f [] h = tt
before_map R S f (x ∷ xs) h = (all_map (R x) (S x) (f x) xs h.0, before_map R S f xs h.1)

before_step : {A : Type 0} (R : A → A → Type 0) (x : A) (ys : List A) (b : Bool) → AllByRecursion (R x) ys → EachBefore R ys → EachBefore R (cond b (x ∷ ys) ys)
before_step R x ys true a h = (a, h)
before_step R x ys false a h = h

pub before_filter : {A : Type 0} (R : A → A → Type 0) (p : A → Bool) (xs : List A) → EachBefore R xs → EachBefore R (filter p xs)
before_filter R p [] h = tt
before_filter R p (x ∷ xs) h = before_step R x (filter p xs) (p x) (all_from (R x) (filter p xs) (λ y g. all_at (R x) xs y h.0 (filter_has p xs y g).0)) (before_filter R p xs h.1)

-- where what is made of two elements stands in S, as they stand in R
made_before : {A B : Type 0} (S : B → B → Type 0) (x : A) (o : Option B) (ys : List B) → ((z : B) → o ≡ Some z → AllByRecursion (S z) ys) → EachBefore S ys → EachBefore S (cons_option o ys)
made_before S x None ys a h = h
made_before S x (Some z) ys a h = (a z refl, h)

pub before_filter_map : {A B : Type 0} (R : A → A → Type 0) (S : B → B → Type 0) (f : A → Option B) → ((x y : A) (v w : B) → R x y → f x ≡ Some v → f y ≡ Some w → S v w) → (xs : List A) → EachBefore R xs → EachBefore S (filter_map f xs)
before_filter_map R S f g [] h = tt
before_filter_map R S f g (x ∷ xs) h = made_before S x (f x) (filter_map f xs)
    (λ v e. all_from (S v) (filter_map f xs) (λ w t. let u = filter_map_has f xs w t in g x u.0 v w (all_at (R x) xs u.0 h.0 u.1) e u.2))
    (before_filter_map R S f g xs h.1)

-- ## Lengths

filter_shorter : {A : Type 0} (b : Bool) (x : A) (ys : List A) (n : ℕ) → length ys ≤ n → length (cond b (x ∷ ys) ys) ≤ suc n
filter_shorter true x ys n h = omega (arith, h)
filter_shorter false x ys n h = omega (arith, h)

pub filter_short : {A : Type 0} (p : A → Bool) (xs : List A) → length (filter p xs) ≤ length xs
filter_short p [] = omega arith
filter_short p (x ∷ xs) = filter_shorter (p x) x (filter p xs) (length xs) (filter_short p xs)

made_shorter : {B : Type 0} (o : Option B) (ys : List B) (n : ℕ) → length ys ≤ n → length (cons_option o ys) ≤ suc n
made_shorter None ys n h = omega (arith, h)
made_shorter (Some z) ys n h = omega (arith, h)

pub filter_map_short : {A B : Type 0} (f : A → Option B) (xs : List A) → length (filter_map f xs) ≤ length xs
filter_map_short f [] = omega arith
filter_map_short f (x ∷ xs) = made_shorter (f x) (filter_map f xs) (length xs) (filter_map_short f xs)

pub within : {A : Type 0} (xs : List A) (i : ℕ) → i < length xs → (x : A) × (slice_get xs i ≡ Some x)
within [] i h = absurd (omega (arith, h))
within (x ∷ xs) zero h = (x, refl)
within (x ∷ xs) (suc i) h = within xs i (omega (arith, h))
