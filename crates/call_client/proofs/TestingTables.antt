-- What the tables and the operations of a test are.
use Rattle.std.proofs.Common.{◌≡◌, ℕ, zero, suc, Some, List, [], ◌∷◌, refl, sym, subst, arith}
use mathlib.Core.Option.{some, some-ne-none, some-injective}
use lib.ListN.{get_elem?}
use Rattle.sock_words.specs.declared.plain.Plan.{Plan}
use Rattle.corr_core.specs.declared.marks.Plan as id_plan
use Rattle.sock_message.specs.Asked.{Asked, name_of}
use Rattle.seat_programs.specs.declared.task.Op.TheVariants as ops
use Rattle.seat_programs.specs.declared.task.Task.{Task}
use Rattle.call_client.specs.ClientRun.{MayMakeAll}

-- what holds of each of two values at its place holds of whatever stands there
pub two_places : {A : Type 0} (a b : A) (P : ℕ → A → Type 0) (xs : List A) → xs ≡ a ∷ b ∷ [] → P 0 a → P 1 b → (k : ℕ) (o : A) → get_elem? xs k ≡ some o → P k o
two_places {A} a b P xs e f h k o at = each k (subst (λ (l : List A). get_elem? l k ≡ some o) e at)
  where
    each : (n : ℕ) → get_elem? (a ∷ b ∷ []) n ≡ some o → P n o
    each zero is = subst (λ (x : A). P 0 x) (some-injective a o is) f
    each (suc zero) is = subst (λ (x : A). P 1 x) (some-injective b o is) h
    each (suc (suc n)) is = absurd (some-ne-none o (sym is))

pub took_none : (t x : List ℕ) → t ≡ [] → Some t ≡ Some x → x ≡ []
took_none t x z e = let same : t ≡ x = cc in cc

abbrev opens_then : Asked → List Task
opens_then a = record { number = 0; op = ops.Open 0 1 } ∷ record { number = 1; op = ops.Open 1 0 } ∷ record { number = 2; op = ops.Call a } ∷ []

-- both names are opened, and then called
pub may_make : (a : Asked) (p : Plan) (q : id_plan.Plan) (xs : List Task) → xs ≡ opens_then a → p.names ≡ 2 → p.operations ≡ 3 → q.operations ≡ 4 → name_of a 0 ≡ 0 → a.operation ≡ 2 → MayMakeAll p q xs 2
may_make a p q xs e names all calls first number = subst (λ (l : List Task). MayMakeAll p q l 2) (sym e) (
  record { number = omega arith; needs = (omega arith, omega arith) },
  (
    record { number = omega arith; needs = (omega arith, omega arith) },
    (record { number = omega arith; needs = (omega arith, number, omega arith) }, refl),
  ),
)
