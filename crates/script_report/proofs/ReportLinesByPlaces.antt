-- The lines by places are those of the report.
use Rattle.std.proofs.Common.{◌≡◌, ℕ, List, [], ◌∷◌, ◌++◌, append_assoc, map, zero, suc, ◌≤◌, ◌<◌, sym, subst, get_or, Option, Bor, arith, length, slice_get, Some, ap, ◌∙◌, refl}
use Rattle.std.specs.List.{HoldsAt}
use Rattle.std.specs.Option.{MatchOption}
use Rattle.sock_words.specs.declared.outcome.Outcome.{Outcome}
use Rattle.brpc_model.specs.Operations.{Operation}
use Rattle.brpc_model.specs.Report.{outcome_line, outcome_lines}
use Rattle.script_report.specs.declared.operations.OperationPlace.{OperationPlace}
use Rattle.script_report.specs.ReportLines.{place_of, outcome_text_line, outcome_text_lines}

-- an outcome line is the same text
line_is : (op : Operation) (o : Outcome) → outcome_text_line (place_of op) o ≡ outcome_line op o
line_is op o = simp append_assoc refl

-- behind the last outcome nothing follows
pub no_more : (places : List OperationPlace) → outcome_text_lines places [] ≡ []
no_more [] = refl
no_more (p ∷ ps) = refl

pub outcomes_are : (ops : List Operation) (os : List Outcome) → outcome_text_lines (map place_of ops) os ≡ outcome_lines ops os
outcomes_are [] os = refl
outcomes_are (op ∷ ops) [] = refl
outcomes_are (op ∷ ops) (o ∷ os) = ap (λ l. l ++ outcome_text_lines (map place_of ops) os) (line_is op o) ∙ ap (λ l. outcome_line op o ++ l) (outcomes_are ops os)

-- what stands at a place that was found
pub got : {A : Type 0} (xs : List A) (i : ℕ) (x : A) → i < length xs → ((d : A) → x ≡ get_or xs i d) → slice_get xs i ≡ Some x
got [] i x l h = absurd (omega arith)
got (y ∷ ys) zero x l h = ap Some (sym (h x))
got (y ∷ ys) (suc i) x l h = got ys i x (omega arith) h

-- what a lookup answered
pub looked_up : {A : Type 0} (r : Option (Bor A)) (xs : List A) (i : ℕ) (x : Bor A) → r ≡ Some x → MatchOption r (length xs ≤ i) (λ (y : Bor A). (i < length xs) × HoldsAt (λ z. y.now ≡ z) xs i) → slice_get xs i ≡ Some x.now
looked_up {A} r xs i x e h = let m = subst (λ (o : Option (Bor A)). MatchOption o (length xs ≤ i) (λ (y : Bor A). (i < length xs) × HoldsAt (λ z. y.now ≡ z) xs i)) e h in got xs i x.now m.0 m.1
