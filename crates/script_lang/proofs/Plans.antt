-- The sizes of a script's table, one by one.
use Rattle.std.proofs.Common.{◌≡◌, ℕ, ◌+◌, Bool, true, false, cond, if◌then◌else◌, List, [], ◌∷◌, length, refl, ap, sym, ◌∙◌, arith}
use Rattle.std.specs.Prelude.{count_by}
use Rattle.std.proofs.lemmas.List.Sums.{sum_by-cons}
use Rattle.sock_words.specs.declared.plain.Plan.{Plan}
use Rattle.corr_core.specs.declared.marks.Plan.{Plan as IdPlan}
use Rattle.brpc_model.specs.Items.{Item, is_call, is_operation}
use Rattle.brpc_model.specs.Operations.{operations, clients, link_names, slots, requests, first_version}
use Rattle.brpc_model.specs.LinePlaceFaults.{names}
use Rattle.seat_programs.specs.Tasks.{calls, id_plan_of, plan_of}
use Rattle.script_lang.specs.TasksByLine.{numbers_along}
use Rattle.script_lang.proofs.ByLine.{calls_are}
use Rattle.script_lang.proofs.Judged.{call_is_operation}

-- a plan by its sizes
abbrev pub plan_by : ℕ → ℕ → ℕ → ℕ → ℕ → ℕ → ℕ → Plan
plan_by s l r n o c f = record { slots = s; links = l; requests = r; names = n; operations = o; seats = c; first = f }

pub plan_is : {s l r n o c f : ℕ} (script : List Item) → s ≡ slots script → l ≡ length (link_names script) → r ≡ requests script → n ≡ length (names script) → o ≡ length (operations script) → c ≡ clients script + 1 → f ≡ first_version script →
    plan_by s l r n o c f ≡ plan_of script
plan_is {s} {l} {r} {n} {o} {c} {f} script es el er en eo ec ef =
    ap (λ x. plan_by x l r n o c f) es
    ∙ ap (λ x. plan_by (slots script) x r n o c f) el
    ∙ ap (λ x. plan_by (slots script) (length (link_names script)) x n o c f) er
    ∙ ap (λ x. plan_by (slots script) (length (link_names script)) (requests script) x o c f) en
    ∙ ap (λ x. plan_by (slots script) (length (link_names script)) (requests script) (length (names script)) x c f) eo
    ∙ ap (λ x. plan_by (slots script) (length (link_names script)) (requests script) (length (names script)) (length (operations script)) x f) ec
    ∙ ap (plan_by (slots script) (length (link_names script)) (requests script) (length (names script)) (length (operations script)) (clients script + 1)) ef

-- ## The calls

numbers_count : (number : ℕ) (items : List Item) → length (numbers_along is_call number items) ≡ count_by is_call items
numbers_count number [] = refl
numbers_count number (item ∷ items) =
    let own : count_by is_call (item ∷ items) ≡ cond {A = ℕ} (is_call item) 1 0 + count_by is_call items = sum_by-cons (λ (x : Item). cond (is_call x) 1 0) item items in
    by (is_operation item) (is_call item) (call_is_operation item) (numbers_count (number + 1) items) (numbers_count number items) ∙ sym own
  where
    by : (o k : Bool) → (k ≡ true → o ≡ true) → length (numbers_along is_call (number + 1) items) ≡ count_by is_call items → length (numbers_along is_call number items) ≡ count_by is_call items →
        length (if o then (if k then number ∷ numbers_along is_call (number + 1) items else numbers_along is_call (number + 1) items) else numbers_along is_call number items) ≡ cond {A = ℕ} k 1 0 + count_by is_call items
    by true true h next same = omega (arith, next)
    by true false h next same = omega (arith, next)
    by false false h next same = omega (arith, same)
    by false true h next same = let e : false ≡ true = h refl in absurd (cc)

pub call_count : (script : List Item) → length (calls script) ≡ count_by is_call script
call_count script = ap length (sym (calls_are script)) ∙ numbers_count 0 script

-- the sizes of its table of ids
abbrev pub id_plan_by : ℕ → ℕ → ℕ → IdPlan
id_plan_by s o c = record { slots = s; operations = o; seats = c }

pub id_plan_is : {s o c : ℕ} (script : List Item) → s ≡ length (calls script) → o ≡ length (operations script) → c ≡ 32 + length (link_names script) → id_plan_by s o c ≡ id_plan_of script
id_plan_is {s} {o} {c} script es eo ec =
    ap (λ x. id_plan_by x o c) es ∙ ap (λ x. id_plan_by (length (calls script)) x c) eo ∙ ap (id_plan_by (length (calls script)) (length (operations script))) ec
