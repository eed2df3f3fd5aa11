-- In a script that was read, where some link has no server, nobody waits for a call.
use Rattle.std.proofs.Common.{◌≡◌, ℕ, ◌+◌, ⊎_elim, Bool, true, false, ◌||◌, not, cond, List, [], ◌∷◌, fold, position, Option, Some, None, Ok, Err, Contains, refl, ap, sym, ◌∙◌, subst}
use Rattle.std.proofs.lemmas.Bool.{true≢false}
use Rattle.std.proofs.lemmas.Iterator.Adapters.{position_from-zero}
use Rattle.std.specs.List.{list_any, position_from}
use Rattle.std.specs.Str.Lines.{lines}
use Rattle.brpc_model.specs.Items.{Item, Shape, Open, Join}
use Rattle.brpc_model.specs.Script.{Faulty, script_of, with_line, items, whole, fault_at, says, is_lost, may_hang, is_unserved}
use Rattle.owed_calls.specs.Below.script_facts.proofs.FilteredLists.{Has, has_from, has_first, has_later, has_cases, has_none}
use Rattle.owed_calls.specs.Below.script_facts.proofs.ReadScriptFacts.{two_faults}
use Rattle.outcome_causes.specs.program_walks.proofs.OpenedLivesRecorded.{or_second}

-- where no element is found that passes a test, none passes it
none_passes : {A : Type 0} (test : A → Bool) (n : ℕ) (xs : List A) → position_from test n xs ≡ None → (x : A) → Has xs x → test x ≡ false
none_passes test n [] e x h = absurd (has_none x h)
none_passes {A} test n (y ∷ ys) e x h = by_first (test y) refl e (λ f later. none_passes test (n + 1) ys f x later)
  where
    by_first : (b : Bool) → test y ≡ b → cond b (Some n) (position_from test (n + 1) ys) ≡ None → (position_from test (n + 1) ys ≡ None → Has ys x → test x ≡ false) → test x ≡ false
    by_first true is f others = absurd (cc)
    by_first false is f others = ⊎_elim (λ same. ap test (sym same) ∙ is) (λ later. others f later) (has_cases y ys x h)

any_of : {A : Type 0} (test : A → Bool) (xs : List A) (x : A) → Has xs x → test x ≡ true → list_any test xs ≡ true
any_of test [] x h e = absurd (has_none x h)
any_of test (y ∷ ys) x h e = ⊎_elim (λ same. ap (λ (b : Bool). b || list_any test ys) (ap test same ∙ e)) (λ later. or_second (test y) (list_any test ys) (any_of test ys x later e)) (has_cases y ys x h)

-- an item is what some line says
said_by : (said : List (Option Item)) (item : Item) → Has (items said) item → Has said (Some item)
said_by [] item h = absurd (has_none item h)
said_by (None ∷ said) item h = has_later None said (Some item) (said_by said item h)
said_by (Some i ∷ said) item h = ⊎_elim (λ same. subst (λ (j : Item). Has (Some j ∷ said) (Some item)) (sym same) (has_first (Some item) said)) (λ later. has_later (Some i) said (Some item) (said_by said item later)) (has_cases i (items said) item h)

none_found : (one two : Option ℕ) (script all : List Item) → fault_at one 10 (fault_at two 11 (Ok all)) ≡ Ok script → two ≡ None
none_found None None script all e = refl
none_found None (Some place) script all e = absurd (cc)
none_found (Some place) two script all e = absurd (cc)

none_hangs : (r : Faulty (List (Option Item))) (script : List Item) → whole r ≡ Ok script → (item : Item) → Has script item → may_hang script item ≡ false
none_hangs (Err fault) script e item h = absurd (cc)
none_hangs (Ok said) script e item h =
    let lost : Option ℕ = position (says (is_lost (items said))) said in
    let hangs : Option ℕ = position (says (may_hang (items said))) said in
    let is : items said ≡ script = two_faults lost hangs script (items said) e in
    subst (λ (all : List Item). may_hang all item ≡ false) is
    (none_passes (says (may_hang (items said))) 0 said (sym (position_from-zero (says (may_hang (items said))) said) ∙ none_found lost hangs script (items said) e) (Some item) (said_by said item (subst (λ (all : List Item). Has all item) (sym is) h)))

pub no_join : (bytes : List ℕ) (script : List Item) → script_of bytes ≡ Ok script → (name : List ℕ) (shape : Shape) → Contains script (Open name shape) → shape.serve ≡ false → (client number : ℕ) → Contains script (Join client number) → ⊥
no_join bytes script reads name shape opened unserved client number joins =
    let none_ : list_any is_unserved script ≡ false = none_hangs (fold with_line (Ok []) (lines bytes)) script reads (Join client number) (has_from script (Join client number) joins) in
    true≢false (sym (any_of is_unserved script (Open name shape) (has_from script (Open name shape) opened) (ap not unserved)) ∙ none_)
