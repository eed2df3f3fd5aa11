-- Choices by a test, and what holds on each side.
use Rattle.std.proofs.Common.{◌≡◌, ◌≢◌, ℕ, Bool, true, false, cond, eqb, eq-eqb, ne_eqb, sym, refl, subst, ◌&&◌, not}
use mathlib.Core.Logic.{dite}
use native.Mathlib.Decide.{ℕ_discrete}

pub split : {A : Type 0} (b : Bool) (x y : A) (P : A → Type 0) → P x → P y → P (cond b x y)
split true x y P p q = p
split false x y P p q = q

-- the same, where each side may know the test
pub split_is : {A : Type 0} (b : Bool) (x y : A) (P : A → Type 0) → (b ≡ true → P x) → (b ≡ false → P y) → P (cond b x y)
split_is true x y P p q = p refl
split_is false x y P p q = q refl

pub split_eq : {A : Type 0} (a b : ℕ) (x y : A) (P : A → Type 0) → (a ≡ b → P x) → (a ≢ b → P y) → P (cond (eqb a b) x y)
split_eq a b x y P p q = dite (ℕ_discrete a b) (λ e. subst (λ t. P (cond t x y)) (sym (eq-eqb a b e)) (p e)) (λ n. subst (λ t. P (cond t x y)) (sym (ne_eqb a b n)) (q n))

pub both_left : (a b : Bool) → (a && b) ≡ true → a ≡ true
both_left true b e = refl
both_left false b e = e

pub both_right : (a b : Bool) → (a && b) ≡ true → b ≡ true
both_right true b e = e
both_right false b e = absurd (cc)

pub none_of : (b : Bool) → not b ≡ true → b ≡ false
none_of true e = absurd (cc)
none_of false e = refl
