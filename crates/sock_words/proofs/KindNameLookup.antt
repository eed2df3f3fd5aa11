-- A name is looked up among the names of all kinds.
use Rattle.std.proofs.Common.{◌≡◌, ℕ, Bool, true, false, List, [], ◌∷◌, Option, Some, map, find, bytes_eq, is_some, cond, ◌||◌, refl, sym, subst}
use Rattle.std.proofs.lemmas.Slice.Eq.{bytes_eq-Decides}
use Rattle.std.specs.List.{list_any}
use Rattle.sock_words.specs.declared.kind.Kind.{Kind}
use Rattle.sock_words.specs.declared.kind.Kind.TheVariants.{A1, A2, A3, A4, A5, A6, A7, A8, S1, S2, S3, S4, S5, S6, S7, C1, C2, C3, C4, C5, C6, C7, C8, P1, M1, M2, L1, L2, W1, W2, W3, R1, I1, I2, I3, I4, I5, I6, I7, I8, T1, T2, K1, K2}
use Rattle.sock_words.specs.KindText.{kind_text, kinds, is_kind_name}

-- what is found passes the test
passes : {X : Type 0} (test : X → Bool) (xs : List X) (x : X) → find test xs ≡ Some x → test x ≡ true
passes test [] x found = cc
passes {X = X} test (y ∷ ys) x found =
    elim (test y) as (λ b. (test y ≡ b → cond b (Some y) (find test ys) ≡ Some x → test x ≡ true)) [
      | true ↦ λ same here. let e : y ≡ x = cc in subst (λ (z : X). test z ≡ true) e same
      | false ↦ λ same later. passes test ys x later
    ] refl found

-- something is found exactly where something passes
is_some-find : {X : Type 0} (f : X → List ℕ) (name : List ℕ) (xs : List X) → is_some (find (λ x. bytes_eq name (f x)) xs) ≡ list_any (bytes_eq name) (map f xs)
is_some-find f name [] = refl
is_some-find f name (x ∷ xs) =
    elim (bytes_eq name (f x)) as (λ b. is_some (cond b (Some x) (find (λ y. bytes_eq name (f y)) xs)) ≡ (b || list_any (bytes_eq name) (map f xs)))
    [ true ↦ refl | false ↦ is_some-find f name xs ]

-- the first kind of this name
abbrev pub first_named : List ℕ → Option Kind
first_named name = find (λ k. bytes_eq name (kind_text k)) kinds

pub known : (name : List ℕ) → is_some (first_named name) ≡ is_kind_name name
unfolding is_kind_name
known name = is_some-find kind_text name kinds

pub found_has_name : (name : List ℕ) (k : Kind) → first_named name ≡ Some k → kind_text k ≡ name
found_has_name name k found = sym ((bytes_eq-Decides name (kind_text k)).0 (passes (λ j. bytes_eq name (kind_text j)) kinds k found))

-- each kind is found by its own name
own_name : (k : Kind) → first_named (kind_text k) ≡ Some k
own_name A1 = refl
own_name A2 = refl
own_name A3 = refl
own_name A4 = refl
own_name A5 = refl
own_name A6 = refl
own_name A7 = refl
own_name A8 = refl
own_name S1 = refl
own_name S2 = refl
own_name S3 = refl
own_name S4 = refl
own_name S5 = refl
own_name S6 = refl
own_name S7 = refl
own_name C1 = refl
own_name C2 = refl
own_name C3 = refl
own_name C4 = refl
own_name C5 = refl
own_name C6 = refl
own_name C7 = refl
own_name C8 = refl
own_name P1 = refl
own_name M1 = refl
own_name M2 = refl
own_name L1 = refl
own_name L2 = refl
own_name W1 = refl
own_name W2 = refl
own_name W3 = refl
own_name R1 = refl
own_name I1 = refl
own_name I2 = refl
own_name I3 = refl
own_name I4 = refl
own_name I5 = refl
own_name I6 = refl
own_name I7 = refl
own_name I8 = refl
own_name T1 = refl
own_name T2 = refl
own_name K1 = refl
own_name K2 = refl

pub found_by_name : (name : List ℕ) (k : Kind) → kind_text k ≡ name → first_named name ≡ Some k
found_by_name name k same = let P : List ℕ → Type 0 = λ text. first_named text ≡ Some k in subst P same (own_name k)
