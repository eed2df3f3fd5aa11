-- The sockets of a script are opened with its links in their order.
use Rattle.std.proofs.Common.{◌≡◌, ℕ, zero, suc, ◌+◌, Bool, true, false, if◌then◌else◌, List, [], ◌∷◌, filter_map, slice_get, Option, Some, None, refl, sym, ap, ◌∙◌, arith}
use Rattle.std.specs.List.{cons_option}
use mathlib.Core.Option.{some, some-injective, some-ne-none}
use lib.ListN.{get_elem?}
use Rattle.sock_words.specs.declared.outcome.Outcome.{Outcome}
use Rattle.brpc_model.specs.Items.{Item, Shape, Open, is_open}
use Rattle.brpc_model.specs.Operations.{Operation, operations}
use Rattle.brpc_model.specs.LinePlaceFaults.{names}
use Rattle.seat_programs.specs.declared.task.Op.TheVariants as ops
use Rattle.seat_programs.specs.ScriptSetupToEnding.{all_tasks}
use Rattle.seat_programs.specs.Tasks.{Numbered, numbered, numbered_from, name_number, op_of, opens}
use Rattle.script_parts.specs.script_facts.proofs.OperationNumbering.{link_at, is_numbered}
use Rattle.script_parts.specs.script_facts.proofs.TaskLemmas.{asks_at, operation_task}
use Rattle.script_parts.specs.call_whys.specs.call_deeds.proofs.ReadersBesideClients.{OpensLink}

-- ## The numbers of opens

abbrev opens_from : ℕ → ℕ → List Operation → List ℕ
opens_from number link ops = filter_map (λ (x : Numbered). if is_open x.op.item then Some x.number else None) (numbered_from number link ops)

-- among these operations one opens a socket with the k-th link from this one on; it has this number
record IsOpening (xs : List Numbered) (link k o : ℕ) : Type 0 where
  place : ℕ
  one : Numbered
  at : slice_get xs place ≡ Some one
  number : one.number ≡ o
  link_is : one.link ≡ link + k
  opens_one : is_open one.op.item ≡ true

next_opening : (b : Bool) (number link : ℕ) (op : Operation) (os : List ℕ) (xs : List Numbered) → is_open op.item ≡ b → ((k o : ℕ) → get_elem? os k ≡ some o → IsOpening xs (if b then link + 1 else link) k o)
    → (k o : ℕ) → get_elem? (cons_option (if b then Some number else None) os) k ≡ some o → IsOpening (record { number = number; link = link; op = op } ∷ xs) link k o
next_opening true number link op os xs is later zero o e = record { place = 0; one = record { number = number; link = link; op = op }; at = refl; number = some-injective number o e; link_is = omega arith; opens_one = is }
next_opening true number link op os xs is later (suc k) o e = let r = later k o e in let l = r.link_is in record { place = suc r.place; one = r.one; at = r.at; number = r.number; link_is = omega arith; opens_one = r.opens_one }
next_opening false number link op os xs is later k o e = let r = later k o e in record { place = suc r.place; one = r.one; at = r.at; number = r.number; link_is = r.link_is; opens_one = r.opens_one }

opening_at : (number link : ℕ) (ops : List Operation) (k o : ℕ) → get_elem? (opens_from number link ops) k ≡ some o → IsOpening (numbered_from number link ops) link k o
opening_at number link [] k o e = absurd (some-ne-none o (sym e))
opening_at number link (op ∷ ops) k o e =
    let next : ℕ = if is_open op.item then link + 1 else link in
    next_opening (is_open op.item) number link op (opens_from (number + 1) next ops) (numbered_from (number + 1) next ops) refl (opening_at (number + 1) next ops) k o e

-- ## What they ask for

opened : (item : Item) → is_open item ≡ true → (name : List ℕ) × (shape : Shape) × (item ≡ Open name shape)
opened (Open name shape) e = (name, shape, refl)
opened other e = absurd (cc)

-- the k-th `open` of a script is an operation that opens link k
pub opens_link : (script : List Item) (outcomes : List (Option Outcome)) (k o : ℕ) → get_elem? (opens script) k ≡ some o → OpensLink (all_tasks script) outcomes k o
opens_link script outcomes k o e =
    let f = opening_at 0 0 (operations script) k o e in
    let n = is_numbered 0 0 (operations script) f.place f.one f.at in
    let w = opened f.one.op.item f.opens_one in
    let place : f.place ≡ o = (let a = n.number in let b = f.number in omega arith) in
    let link : link_at (operations script) o ≡ k = (let a = n.link in let b = f.link_is in let c = ap (link_at (operations script)) place in omega arith) in
    let there : slice_get (operations script) o ≡ Some f.one.op = ap (slice_get (operations script)) (sym place) ∙ n.op in
    let number : ℕ = name_number (names script) w.0 in
    let asks : asks_at script o f.one.op ≡ Some (ops.Open number k) = ap (op_of (numbered script) (names script) record { number = o; link = link_at (operations script) o; op = f.one.op }) w.2 ∙ ap (λ (l : ℕ). Some (ops.Open number l)) link in
    (f.one.op.client, number, operation_task script outcomes o f.one.op (ops.Open number k) there asks)
