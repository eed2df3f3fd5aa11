-- What clients told of an operation is what stands at its number, and nothing else stands there.
use Rattle.std.proofs.Common.{◌≡◌, ◌≢◌, ℕ, zero, suc, ◌<◌, ◌⊎◌, inl, inr, List, [], ◌∷◌, length, length-set, replicate, slice_get, slice_set, Option, Some, None, refl, sym, ap, ◌∙◌, arith}
use Rattle.std.proofs.lemmas.Option.{none-some, same_Some}
use mathlib.Core.Logic.{dite}
use mathlib.Core.Option.{some}
use native.Mathlib.Decide.{ℕ_discrete}
use lib.ListN.{get_elem?}
use Rattle.sock_words.specs.declared.outcome.Outcome.{Outcome}
use Rattle.rpc_client.specs.declared.acting.Told.{Told}
use Rattle.script_parts.specs.OutcomesSaidByNumber.{said_by, said_by_each}

-- ## One place of a list

set_off : {A : Type 0} (l : List A) (n m : ℕ) (x : A) → n ≢ m → slice_get (slice_set l n x) m ≡ slice_get l m
set_off [] n m x ne = refl
set_off (y ∷ ys) zero zero x ne = absurd (ne refl)
set_off (y ∷ ys) zero (suc m) x ne = refl
set_off (y ∷ ys) (suc n) zero x ne = refl
set_off (y ∷ ys) (suc n) (suc m) x ne = set_off ys n m x (λ e. ne (omega (arith, e)))

set_is : {A : Type 0} (l : List A) (n : ℕ) (x y : A) → slice_get (slice_set l n x) n ≡ Some y → x ≡ y
set_is [] n x y e = absurd (none-some y e)
set_is (z ∷ zs) zero x y e = same_Some x y e
set_is (z ∷ zs) (suc n) x y e = set_is zs n x y e

-- ## One client

abbrev pub Before : Told → Told → Type 0
Before a b = a.number < b.number

long : (said : List (Option Outcome)) (ts : List Told) → length (said_by said ts) ≡ length said
long said [] = refl
long said (t ∷ ts) = long (slice_set said t.number (Some t.outcome)) ts ∙ length-set said t.number (Some t.outcome)

-- where something is told of operation n
abbrev pub ToldIn : List Told → ℕ → Outcome → Type 0
ToldIn ts n o = (i : ℕ) × (t : Told) × (get_elem? ts i ≡ some t) × (t.number ≡ n) × (t.outcome ≡ o)

told_own : (said : List (Option Outcome)) (ts : List Told) (n : ℕ) (o : Outcome) → slice_get (said_by said ts) n ≡ Some (Some o) → (slice_get said n ≡ Some (Some o)) ⊎ ToldIn ts n o
told_own said [] n o e = inl e
told_own said (t ∷ ts) n o e = elim (told_own (slice_set said t.number (Some t.outcome)) ts n o e) [
  | inl h ↦ dite (ℕ_discrete t.number n)
      (λ q. inr (0, t, refl, q, same_Some t.outcome o (set_is said t.number (Some t.outcome) (Some o) (ap (slice_get (slice_set said t.number (Some t.outcome))) q ∙ h))))
      (λ ne. inl (sym (set_off said t.number n (Some t.outcome) ne) ∙ h))
  | inr w ↦ inr (suc w.0, w.1, w.2, w.3, w.4)
]

-- ## All clients

pub long_each : (said : List (Option Outcome)) (tss : List (List Told)) → length (said_by_each said tss) ≡ length said
long_each said [] = refl
long_each said (ts ∷ tss) = long_each (said_by said ts) tss ∙ long said ts

pub told_each : (said : List (Option Outcome)) (tss : List (List Told)) (n : ℕ) (o : Outcome) → slice_get (said_by_each said tss) n ≡ Some (Some o) → (slice_get said n ≡ Some (Some o)) ⊎ ((c : ℕ) × (ts : List Told) × (get_elem? tss c ≡ some ts) × ToldIn ts n o)
told_each said [] n o e = inl e
told_each said (ts ∷ tss) n o e = elim (told_each (said_by said ts) tss n o e) [
  | inl h ↦ elim (told_own said ts n o h) [ inl a ↦ inl a | inr w ↦ inr (0, ts, refl, w) ]
  | inr w ↦ inr (suc w.0, w.1, w.2, w.3)
]

-- ## Lists of which one is told

pub said_more : (said more : List (Option Outcome)) (left rest : List Told) (t : Told) (all : List (Option Outcome)) → said_by said left ≡ all → left ≡ t ∷ rest → more ≡ slice_set said t.number (Some t.outcome) → said_by more rest ≡ all
said_more said more left rest t all h l m = ap (λ s. said_by s rest) m ∙ (sym (ap (said_by said) l) ∙ h)

pub each_said_more : (said more : List (Option Outcome)) (left rest : List (List Told)) (ts : List Told) (all : List (Option Outcome)) → said_by_each said left ≡ all → left ≡ ts ∷ rest → more ≡ said_by said ts → said_by_each more rest ≡ all
each_said_more said more left rest ts all h l m = ap (λ s. said_by_each s rest) m ∙ (sym (ap (said_by_each said) l) ∙ h)

-- ## Before anything is told

abbrev pub nothing_told : Option Outcome
nothing_told = None

pub none_long : (n : ℕ) → length (replicate n (nothing_told)) ≡ n
none_long zero = refl
none_long (suc n) = ap suc (none_long n)

pub none_told : (m n : ℕ) (o : Outcome) → slice_get (replicate m nothing_told) n ≡ Some (Some o) → ⊥
none_told zero n o e = none-some (Some o) e
none_told (suc m) zero o e = none-some o (same_Some nothing_told (Some o) e)
none_told (suc m) (suc n) o e = none_told m n o e
