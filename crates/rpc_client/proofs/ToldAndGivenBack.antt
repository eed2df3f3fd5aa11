-- What a client tells, and how it gives back what it holds.
use Rattle.std.proofs.Common.{◌≡◌, ℕ, zero, suc, ◌+◌, ◌<◌, ◌≤◌, true, false, Option, Some, None, List, [], ◌∷◌, ◌++◌, length, drop, length-drop, length-append, refl, sym, ap, ◌∙◌, subst, arith}
use mathlib.Core.Option.{some, some-ne-none}
use lib.ListN.{get_elem?}
use Rattle.std.specs.List.{remove}
use Rattle.sock_words.specs.declared.outcome.Outcome.{Outcome}
use Rattle.sock_words.specs.declared.outcome.Outcome.TheVariants as outcome
use Rattle.sock_model.specs.declared.view.View.{View}
use Rattle.rpc_client.specs.declared.acting.Told.{Told}
use Rattle.rpc_client.specs.declared.holding.Held.{Held}
use Rattle.rpc_client.specs.HoldAndDropOutcomes.{GivenBy}
use Rattle.rpc_client.specs.SendingOutcomes.{Returned}
use Rattle.rpc_client.specs.ToldOfOperation.{telling, GaveFirst}

-- ## Giving back

drop_first : {A : Type 0} (k : ℕ) (h : List A) (x : A) → get_elem? (drop k h) 0 ≡ some x → (get_elem? h k ≡ some x) × (drop (suc zero) (drop k h) ≡ drop (suc k) h) × (k < length h)
drop_first zero [] x e = absurd (some-ne-none x (sym e))
drop_first zero (y ∷ ys) x e = (e, refl, omega arith)
drop_first (suc k) [] x e = absurd (some-ne-none x (sym e))
drop_first (suc k) (y ∷ ys) x e = let a = drop_first k ys x e in (a.0, a.1, omega arith)

given_one : (at : ℕ) (o : Outcome) (h : List Held) (v : View) (k : List Held) (w : View) → GivenBy at o h v k w → (x : Held) × (get_elem? h at ≡ some x) × (k ≡ remove h at) × Returned x.id.0 v w
given_one at outcome.Freed h v k w g = (g.held, g.there, g.left, record { ended = true; back = g.back })
given_one at outcome.Kept h v k w g = (g.held, g.there, g.left, record { ended = false; back = g.back })
given_one at _ h v k w g = elim g [ ]

pub gives_on : (h now next : List Held) (o : Outcome) (u v w : View) → (k : ℕ) × (k ≤ length h) × (now ≡ drop k h) × GaveFirst h k u v → GivenBy 0 o now v next w → (k : ℕ) × (k ≤ length h) × (next ≡ drop k h) × GaveFirst h k u w
gives_on h now next o u v w (k, le, is, gave) g = let a = given_one 0 o now v next w g in let d = drop_first k h a.0 (ap (λ (l : List Held). get_elem? l 0) (sym is) ∙ a.1) in
    (suc k, omega (arith, d.2), a.2 ∙ (ap (λ (l : List Held). remove l 0) is ∙ d.1), (v, a.0, gave, d.0, a.3))

pub gave_all : (h now : List Held) (u v : View) → now ≡ [] → (k : ℕ) × (k ≤ length h) × (now ≡ drop k h) × GaveFirst h k u v → GaveFirst h (length h) u v
gave_all h now u v e (k, le, is, gave) = subst (λ (n : ℕ). GaveFirst h n u v) same gave
  where
    same : k ≡ length h
    same = let a = length-drop k h in let b = ap length (sym is ∙ e) in omega arith

-- ## What is told

telling_few : (number : ℕ) (by : Option Outcome) → length (telling number by) ≤ 1
telling_few number None = omega arith
telling_few number (Some by) = omega arith

pub told_room : (number : ℕ) (by : Option Outcome) (old new : List Told) → new ≡ old ++ telling number by → length new ≤ length old + 1
told_room number by old new e = let a = ap length e in let b = length-append old (telling number by) in let c = telling_few number by in omega arith
