-- Members of lists, and what holds of each.
use Rattle.std.proofs.Common.{◌≡◌, ◌≢◌, ℕ, zero, suc, ◌<◌, ◌⊎◌, Bool, true, false, cond, ◌&&◌, eqb, eq-eqb, ne_eqb, List, [], ◌∷◌, ◌++◌, length, set, inl, inr, ⊎_elim, sym, refl, ap, ◌∙◌, subst, arith}
use Rattle.std.specs.Prelude.{Some, slice_get, get_or, Contains}
use Rattle.std.specs.List.{AllByRecursion}
use mathlib.Core.Logic.{dite}
use native.Mathlib.Decide.{ℕ_discrete}
use Rattle.brpc_model.specs.Order.{EachBefore}
use Rattle.outcome_stories.specs.OperationStories.{Entry, Event, In, trace_of}
use Rattle.program_walks.proofs.OpenedLivesRecorded.{both_true}

module _ {A : Type 0} where
  pub in_left : (xs ys : List A) (x : A) → In x xs → In x (xs ++ ys)
  in_left [] ys x m = absurd m
  in_left (y ∷ xs) ys x (inl e) = inl e
  in_left (y ∷ xs) ys x (inr m) = inr (in_left xs ys x m)

  pub in_right : (xs ys : List A) (x : A) → In x ys → In x (xs ++ ys)
  in_right [] ys x m = m
  in_right (y ∷ xs) ys x m = inr (in_right xs ys x m)

  pub in_both : (xs ys : List A) (x : A) → In x (xs ++ ys) → In x xs ⊎ In x ys
  in_both [] ys x m = inr m
  in_both (y ∷ xs) ys x (inl e) = inl (inl e)
  in_both (y ∷ xs) ys x (inr m) = ⊎_elim (λ a. inl (inr a)) (λ b. inr b) (in_both xs ys x m)

  pub all_in : (P : A → Type 0) (xs : List A) (x : A) → AllByRecursion P xs → In x xs → P x
  all_in P [] x h m = absurd m
  all_in P (y ∷ ys) x h (inl e) = subst P (sym e) h.0
  all_in P (y ∷ ys) x h (inr m) = all_in P ys x h.1 m

  pub all_of : (P : A → Type 0) (xs : List A) → ((x : A) → In x xs → P x) → AllByRecursion P xs
  all_of P [] h = tt
  all_of P (x ∷ xs) h = (h x (inl refl), all_of P xs (λ y m. h y (inr m)))

  pub in_contains : (xs : List A) (x : A) → In x xs → Contains xs x
  in_contains [] x m = absurd m
  in_contains (y ∷ ys) x (inl e) = (0, omega arith, sym e)
  in_contains (y ∷ ys) x (inr m) = let c = in_contains ys x m in (suc c.0, omega (arith, c.1), c.2)

  pub in_at : (xs : List A) (x : A) (k : ℕ) → k < length xs → get_or xs k x ≡ x → In x xs
  in_at [] x k l e = absurd (omega arith)
  in_at (y ∷ ys) x zero l e = inl (sym e)
  in_at (y ∷ ys) x (suc k) l e = inr (in_at ys x k (omega arith) e)

  pub contains_in : (xs : List A) (x : A) → Contains xs x → In x xs
  contains_in xs x c = in_at xs x c.0 c.1 c.2

  -- of two members, one stands before the other, or they are one
  pub before_or_same : (R : A → A → Type 0) (xs : List A) (x y : A) → EachBefore R xs → In x xs → In y xs → (x ≡ y) ⊎ (R x y ⊎ R y x)
  before_or_same R [] x y h m n = absurd m
  before_or_same R (z ∷ zs) x y h (inl e) (inl f) = inl (e ∙ sym f)
  before_or_same R (z ∷ zs) x y h (inl e) (inr n) = inr (inl (subst (λ w. R w y) (sym e) (all_in (R z) zs y h.0 n)))
  before_or_same R (z ∷ zs) x y h (inr m) (inl f) = inr (inr (subst (λ w. R w x) (sym f) (all_in (R z) zs x h.0 m)))
  before_or_same R (z ∷ zs) x y h (inr m) (inr n) = before_or_same R zs x y h.1 m n

  pub get_all : (P : A → Type 0) (xs : List A) (i : ℕ) (x : A) → AllByRecursion P xs → slice_get xs i ≡ Some x → P x
  get_all P [] i x h e = absurd (cc)
  get_all P (y ∷ ys) zero x h e = let q : y ≡ x = cc in subst P q h.0
  get_all P (y ∷ ys) (suc i) x h e = get_all P ys i x h.1 e

  -- of two places, the elements stand in the relation one way or the other
  pub get_before : (R : A → A → Type 0) (xs : List A) (i j : ℕ) (x y : A) → EachBefore R xs → i ≢ j → slice_get xs i ≡ Some x → slice_get xs j ≡ Some y → R x y ⊎ R y x
  get_before R [] i j x y h ne e f = absurd (cc)
  get_before R (z ∷ zs) zero zero x y h ne e f = absurd (ne refl)
  get_before R (z ∷ zs) zero (suc j) x y h ne e f = let q : z ≡ x = cc in inl (subst (λ w. R w y) q (get_all (R z) zs j y h.0 f))
  get_before R (z ∷ zs) (suc i) zero x y h ne e f = let q : z ≡ y = cc in inr (subst (λ w. R w x) q (get_all (R z) zs i x h.0 e))
  get_before R (z ∷ zs) (suc i) (suc j) x y h ne e f = get_before R zs i j x y h.1 (λ q. ne (ap suc q)) e f

  pub get_there : (xs : List A) (i : ℕ) → i < length xs → (x : A) × (slice_get xs i ≡ Some x)
  get_there [] i l = absurd (omega arith)
  get_there (x ∷ xs) zero l = (x, refl)
  get_there (x ∷ xs) (suc i) l = get_there xs i (omega arith)

  pub get_within : (xs : List A) (i : ℕ) (x : A) → slice_get xs i ≡ Some x → i < length xs
  get_within [] i x e = absurd (cc)
  get_within (y ∷ ys) zero x e = omega arith
  get_within (y ∷ ys) (suc i) x e = omega (arith, get_within ys i x e)

  pub get_set_here : (xs : List A) (i : ℕ) (x : A) → i < length xs → slice_get (set xs i x) i ≡ Some x
  get_set_here [] i x l = absurd (omega arith)
  get_set_here (y ∷ ys) zero x l = refl
  get_set_here (y ∷ ys) (suc i) x l = get_set_here ys i x (omega arith)

  pub get_set_else : (xs : List A) (i j : ℕ) (x : A) → i ≢ j → slice_get (set xs i x) j ≡ slice_get xs j
  get_set_else [] i j x ne = refl
  get_set_else (y ∷ ys) zero zero x ne = absurd (ne refl)
  get_set_else (y ∷ ys) zero (suc j) x ne = refl
  get_set_else (y ∷ ys) (suc i) zero x ne = refl
  get_set_else (y ∷ ys) (suc i) (suc j) x ne = get_set_else ys i j x (λ q. ne (ap suc q))

-- ## Steps of one operation

no_left : (a b : Bool) → a ≡ false → (a && b) ≡ false
no_left a b p = ap (λ z. z && b) p

no_right : (a b : Bool) → b ≡ false → (a && b) ≡ false
no_right true b p = p
no_right false b p = refl

module _ (c o : ℕ) (e : Event) (es : List Event) where
  pub trace_here : e.client ≡ c → e.number ≡ o → trace_of c o (e ∷ es) ≡ e.entry ∷ trace_of c o es
  trace_here p q = ap (λ z. cond z (e.entry ∷ trace_of c o es) (trace_of c o es)) (both_true (eqb e.client c) (eqb e.number o) (eq-eqb e.client c p) (eq-eqb e.number o q))

  pub trace_client : e.client ≢ c → trace_of c o (e ∷ es) ≡ trace_of c o es
  trace_client n = ap (λ z. cond z (e.entry ∷ trace_of c o es) (trace_of c o es)) (no_left (eqb e.client c) (eqb e.number o) (ne_eqb e.client c n))

  pub trace_number : e.number ≢ o → trace_of c o (e ∷ es) ≡ trace_of c o es
  trace_number n = ap (λ z. cond z (e.entry ∷ trace_of c o es) (trace_of c o es)) (no_right (eqb e.client c) (eqb e.number o) (ne_eqb e.number o n))

-- no step was made for it
pub trace_none : (c o : ℕ) (es : List Event) → ((e : Event) → In e es → e.client ≡ c → e.number ≢ o) → trace_of c o es ≡ []
trace_none c o [] h = refl
trace_none c o (e ∷ es) h = dite (ℕ_discrete e.client c)
    (λ p. trace_number c o e es (h e (inl refl) p) ∙ trace_none c o es (λ x m. h x (inr m)))
    (λ n. trace_client c o e es n ∙ trace_none c o es (λ x m. h x (inr m)))

-- a step of the trace is one of the story
pub from_trace : (c o : ℕ) (es : List Event) (x : Entry) → In x (trace_of c o es) → In (record { client = c; number = o; entry = x }) es
from_trace c o [] x m = absurd m
from_trace c o (e ∷ es) x m = dite (ℕ_discrete e.client c)
    (λ p. dite (ℕ_discrete e.number o)
    (λ q. here p q (λ n. from_trace c o es x n) (subst (In x) (trace_here c o e es p q) m))
    (λ n. inr (from_trace c o es x (subst (In x) (trace_number c o e es n) m))))
    (λ n. inr (from_trace c o es x (subst (In x) (trace_client c o e es n) m)))
  where
    here : e.client ≡ c → e.number ≡ o → (In x (trace_of c o es) → In (record { client = c; number = o; entry = x }) es) → In x (e.entry ∷ trace_of c o es) → In (record { client = c; number = o; entry = x }) (e ∷ es)
    here p q ih (inl same) = inl (λ k. record { client = sym p k; number = sym q k; entry = same k })
    here p q ih (inr m) = inr (ih m)

-- and the other way round
pub to_trace : (es : List Event) (e : Event) → In e es → In e.entry (trace_of e.client e.number es)
to_trace [] e m = absurd m
to_trace (x ∷ es) e (inl same) = subst (In e.entry) (sym (trace_here e.client e.number x es (ap (λ (y : Event). y.client) (sym same)) (ap (λ (y : Event). y.number) (sym same)))) (inl (ap (λ (y : Event). y.entry) same))
to_trace (x ∷ es) e (inr m) = let ih = to_trace es e m in dite (ℕ_discrete x.client e.client)
    (λ p. dite (ℕ_discrete x.number e.number)
    (λ q. subst (In e.entry) (sym (trace_here e.client e.number x es p q)) (inr ih))
    (λ n. subst (In e.entry) (sym (trace_number e.client e.number x es n)) ih))
    (λ n. subst (In e.entry) (sym (trace_client e.client e.number x es n)) ih)
