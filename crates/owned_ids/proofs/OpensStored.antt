-- Each `open` of a script is one of a client's tasks, and where the clients are at rest its word is stored.
use Rattle.std.proofs.Common.{◌≡◌, ℕ, zero, suc, ◌==◌, ◌&&◌, ◌||◌, Bool, true, false, cond, eq-eqb, List, [], ◌∷◌, slice_get, Some, None, refl, sym, ap, ◌∙◌, arith}
use Rattle.std.proofs.lemmas.Bool.{true≢false}
use mathlib.Core.Option.{some, some-injective, some-ne-none}
use lib.ListN.{get_elem?}
use Rattle.seat_programs.specs.brpc_model.specs.Items.{Item, Open, is_open}
use Rattle.seat_programs.specs.brpc_model.specs.Operations.{operations}
use Rattle.seat_programs.specs.brpc_model.specs.LinePlaceFaults.{names}
use Rattle.seat_programs.specs.declared.task.Op.{Op}
use Rattle.seat_programs.specs.declared.task.Task.{Task}
use Rattle.seat_programs.specs.Tasks.{Numbered, numbered, op_of, opens}
use Rattle.seat_programs.specs.ScriptSetupToEnding.{all_tasks}
use Rattle.call_owing.specs.Below.programs_allowed.specs.program_walks.proofs.OpenedLivesRecorded.{is_opening, opens_in}
use Rattle.call_owing.specs.Below.script_facts.proofs.FilteredLists.{filter_map_has, has_from, some_is}
use Rattle.call_owing.specs.Below.script_facts.proofs.OperationNumbering.{is_numbered}
use Rattle.call_owing.specs.Below.script_facts.proofs.TaskLemmas.{numbers_at, asked_at, operation_task}

-- the two ways to look up a place
pub at_place : {A : Type 0} (l : List A) (i : ℕ) (a : A) → slice_get l i ≡ Some a → get_elem? l i ≡ some a
at_place [] i a e = absurd (cc)
at_place (x ∷ xs) zero a e = ap some (some_is x a e)
at_place (x ∷ xs) (suc i) a e = at_place xs i a e

pub place_at : {A : Type 0} (l : List A) (i : ℕ) (a : A) → get_elem? l i ≡ some a → slice_get l i ≡ Some a
place_at [] i a e = absurd (some-ne-none a (sym e))
place_at (x ∷ xs) zero a e = ap Some (some-injective x a e)
place_at (x ∷ xs) (suc i) a e = place_at xs i a e

asks_open : (all : List Numbered) (ns : List (List ℕ)) (x : Numbered) (item : Item) (op : Op) → is_open item ≡ true → op_of all ns x item ≡ Some op → is_opening op ≡ true
asks_open all ns x (Open name shape) op o e = ap is_opening (sym (some_is _ op e))
asks_open all ns x item op o e = absurd (true≢false (sym o))

of_open : (b : Bool) (n o : ℕ) → cond b (Some n) None ≡ Some o → (b ≡ true) × (n ≡ o)
of_open true n o e = (refl, some_is n o e)
of_open false n o e = absurd (let z : None ≡ Some o = e in cc)

has_open : (ts : List Task) (t : Task) → is_opening t.op ≡ true → (i : ℕ) → slice_get ts i ≡ Some t → opens_in ts t.number ≡ true
has_open [] t opening i e = absurd (cc)
has_open (x ∷ xs) t opening zero e = let same : x ≡ t = some_is x t e in ap (λ (y : Task). (is_opening y.op && (y.number == t.number)) || opens_in xs t.number) same ∙ ap (λ b. (b && (t.number == t.number)) || opens_in xs t.number) opening
    ∙ ap (λ b. b || opens_in xs t.number) (eq-eqb t.number t.number refl)
has_open (x ∷ xs) t opening (suc i) e = ap (λ b. (is_opening x.op && (x.number == t.number)) || b) (has_open xs t opening i e) ∙ or_true (is_opening x.op && (x.number == t.number))
  where
    or_true : (b : Bool) → (b || true) ≡ true
    or_true true = refl
    or_true false = refl

-- operation o is an `open` of the client that has this place
pub record IsOpener (script : List Item) (o : ℕ) : Type 0 where
  pub place : ℕ
  pub tasks : List Task
  pub there : get_elem? (all_tasks script) place ≡ some tasks
  pub opening : opens_in tasks o ≡ true

pub opener_of : (script : List Item) (n o : ℕ) → get_elem? (opens script) n ≡ some o → IsOpener script o
opener_of script n o at =
    let w = filter_map_has (λ (x : Numbered). cond (is_open x.op.item) (Some x.number) None) (numbered script) o (n, place_at (opens script) n o at) in
    let is = of_open (is_open w.0.op.item) w.0.number o w.2 in
    let of_number = is_numbered 0 0 (operations script) w.1.0 w.0 w.1.1 in
    let place : w.1.0 ≡ o = (let number = of_number.number in let same = is.1 in omega (arith, number, same)) in
    let there : slice_get (operations script) o ≡ Some w.0.op = ap (slice_get (operations script)) (sym place) ∙ of_number.op in
    let a = asked_at script o w.0.op there in
    let opening : is_opening a.0 ≡ true = asks_open (numbered script) (names script) (numbers_at script o w.0.op) w.0.op.item a.0 is.0 a.1 in
    let t = operation_task script [] o w.0.op a.0 there a.1 in
    let h = has_from t.0 (record { number = o; op = a.0 }) t.2 in
    record { place = w.0.op.client; tasks = t.0; there = at_place (all_tasks script) w.0.op.client t.0 t.1; opening = has_open t.0 (record { number = o; op = a.0 }) opening h.0 h.1 }
