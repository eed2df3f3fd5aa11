-- A script has as many `open` operations as links.
use Rattle.std.proofs.Common.{◌≡◌, ℕ, ◌+◌, Bool, true, false, cond, List, [], ◌∷◌, length, filter_map, count_by, Some, None, refl, ap, ◌∙◌, sym, arith}
use Rattle.std.proofs.lemmas.List.Sums.{sum_by-cons}
use Rattle.std.specs.List.{cons_option}
use Rattle.brpc_model.specs.Items.{Item, Open, is_client, is_open, is_operation}
use Rattle.brpc_model.specs.Operations.{Operation, operations, operations_from, link_names}
use Rattle.seat_programs.specs.Tasks.{Numbered, numbered_from, opens}
use Rattle.script_parts.specs.script_facts.proofs.OperationNumbering.{behind_item}
use Rattle.script_parts.specs.script_facts.proofs.ScriptSizes.{link_count}

abbrev opens_from : ℕ → ℕ → List Operation → List ℕ
opens_from number link ops = filter_map (λ (x : Numbered). cond (is_open x.op.item) (Some x.number) None) (numbered_from number link ops)

abbrev is_opening : Operation → Bool
is_opening op = is_open op.item

one_longer : (b : Bool) (number : ℕ) (os : List ℕ) → length (cons_option (cond b (Some number) None) os) ≡ cond b 1 0 + length os
one_longer true number os = omega arith
one_longer false number os = omega arith

opens_counted : (number link : ℕ) (ops : List Operation) → length (opens_from number link ops) ≡ count_by is_opening ops
opens_counted number link [] = refl
opens_counted number link (op ∷ ops) =
    let rest : length (opens_from (number + 1) (cond (is_open op.item) (link + 1) link) ops) ≡ count_by is_opening ops = opens_counted (number + 1) (cond (is_open op.item) (link + 1) link) ops in
    let one = one_longer (is_open op.item) number (opens_from (number + 1) (cond (is_open op.item) (link + 1) link) ops) in
    let more = sum_by-cons (λ (x : Operation). cond (is_opening x) 1 0) op ops in omega arith

-- ## Along the lines

not_client : (item : Item) → is_client item ≡ true → is_open item ≡ false
not_client (Open name shape) e = absurd (cc)
not_client other e = refl

not_operation : (item : Item) → is_operation item ≡ false → is_open item ≡ false
not_operation (Open name shape) e = absurd (cc)
not_operation other e = refl

count_step : (item : Item) (items : List Item) → count_by is_open (item ∷ items) ≡ cond (is_open item) 1 0 + count_by is_open items
count_step item items = sum_by-cons (λ (x : Item). cond (is_open x) 1 0) item items

along_items : (client number : ℕ) (items : List Item) → count_by is_opening (operations_from client number items) ≡ count_by is_open items
along_items client number [] = refl
along_items client number (item ∷ items) =
    let next : count_by is_opening (operations_from (client + 1) 1 items) ≡ count_by is_open items = along_items (client + 1) 1 items in
    let own : count_by is_opening (operations_from client (number + 1) items) ≡ count_by is_open items = along_items client (number + 1) items in
    let same : count_by is_opening (operations_from client number items) ≡ count_by is_open items = along_items client number items in
    let step = count_step item items in
    behind_item client number item items (λ ops. count_by is_opening ops ≡ count_by is_open (item ∷ items))
    (λ c. let z = ap (λ b. cond {A = ℕ} b 1 0) (not_client item c) in omega arith)
    (λ c o. let more = sum_by-cons (λ (x : Operation). cond (is_opening x) 1 0) (record { client = client; number = number; item = item }) (operations_from client (number + 1) items) in omega arith)
    (λ c o. let z = ap (λ b. cond {A = ℕ} b 1 0) (not_operation item o) in omega arith)

pub opens_many : (script : List Item) → length (opens script) ≡ length (link_names script)
opens_many script = opens_counted 0 0 (operations script) ∙ (along_items 0 1 script ∙ sym (link_count script))
