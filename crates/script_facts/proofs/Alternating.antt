-- What the places of the lines say of the tasks: the setup opens sockets alone, and holds and drops of a name alternate.
use Rattle.std.proofs.Common.{◌≡◌, ◌≢◌, ℕ, zero, suc, ◌<◌, ◌+◌, ◌==◌, Bool, true, false, ◌&&◌, ◌||◌, not, cond, if◌then◌else◌, List, [], ◌∷◌, ◌++◌, filter_map, slice_get, bytes_eq, option_map, Some, refl, ap, sym, ◌∙◌, arith}
use Rattle.std.proofs.lemmas.Bool.Decides.{nat_tests}
use Rattle.std.proofs.lemmas.List.Folds.{list_any-append}
use Rattle.std.proofs.lemmas.Slice.Eq.{bytes_eq-Decides}
use Rattle.std.specs.List.{list_any, cons_option}
use Rattle.brpc_model.specs.Items.{Item, Open, Client, Send, Call, Expire, Join, Fail, Hold, Drop, is_client, is_open, is_operation, is_size, is_sched, is_turn, mentioned}
use Rattle.brpc_model.specs.Operations.{Operation, operations_from}
use Rattle.brpc_model.specs.LinePlaceFaults.{is_same_size, is_held, held_behind}
use Rattle.brpc_model.proofs.GrowingLineByLine.{is_held_more}
use Rattle.seat_programs.specs.declared.task.Op.{Op}
use Rattle.seat_programs.specs.declared.task.Op.TheVariants as ops
use Rattle.seat_programs.specs.declared.task.Task.{Task}
use Rattle.seat_programs.specs.Tasks.{Numbered, numbered_from, of_client, op_of, task_of, name_number}
use Rattle.seat_programs.specs.Explained.{goes_well, in_hand_behind, alternate}
use Rattle.script_facts.proofs.FilteredLists.{or_parts, Has, has_first, has_later, some_is}
use Rattle.script_facts.proofs.OperationNumbering.{behind_item}
use Rattle.script_facts.proofs.ReadScriptFacts.{IsPlaced, ArePlaced}

-- ## The setup

must_open : (operation opens client : Bool) → (operation && not opens && not client) ≡ false → operation ≡ true → client ≡ false → opens ≡ true
must_open true true client e o c = refl
must_open true false true e o c = absurd (cc)
must_open true false false e o c = absurd (cc)
must_open false opens client e o c = absurd (cc)

-- an operation before the first client is an `open`
open_first : (before : List Item) (item : Item) → IsPlaced before item → is_operation item ≡ true → list_any is_client before ≡ false → is_open item ≡ true
open_first before item g o c =
    let size = is_size item && list_any (λ i. not (is_size i) || is_same_size item i) before in
    let early = is_operation item && not (is_open item) && not (list_any is_client before) in
    let late = (is_operation item || is_client item || is_sched item) && list_any is_sched before in
    let turn = is_turn item && not (list_any is_sched before) in
    let three = or_parts (size || early || late) turn g.placed in
    let two = or_parts (size || early) late three.0 in
    must_open (is_operation item) (is_open item) (list_any is_client before) (or_parts size early two.0).1 o c

no_client_more : (before : List Item) (item : Item) → is_client item ≡ false → list_any is_client before ≡ false → list_any is_client (before ++ item ∷ []) ≡ false
no_client_more before item c e = list_any-append is_client before (item ∷ []) ∙ ap (λ b. b || (is_client item || false)) e ∙ ap (λ b. b || false) c

abbrev pub OpensFirst : List Operation → Type 0
OpensFirst ops = (i : ℕ) (op : Operation) → slice_get ops i ≡ Some op → op.client ≡ 0 → is_open op.item ≡ true

opens_one : (client number : ℕ) (item : Item) (ops : List Operation) → (client ≡ 0 → is_open item ≡ true) → OpensFirst ops → OpensFirst ((record { client = client; number = number; item = item }) ∷ ops)
opens_one client number item ops h again zero op e own =
    let first : Operation = record { client = client; number = number; item = item } in
    let same = some_is first op e in
    sym (ap (λ (x : Operation). is_open x.item) same) ∙ h (ap (λ (x : Operation). x.client) same ∙ own)
opens_one client number item ops h again (suc i) op e own = again i op e own

pub setup_opens : (items before : List Item) (client number : ℕ) → (client ≡ 0 → list_any is_client before ≡ false) → ArePlaced before items → OpensFirst (operations_from client number items)
setup_opens [] before client number h g = λ i op e own. absurd (cc)
setup_opens (item ∷ items) before client number h g =
    behind_item client number item items OpensFirst
    (λ c. setup_opens items (before ++ item ∷ []) (client + 1) 1 (λ z. absurd (omega (arith, z))) g.1)
    (λ c o. opens_one client number item (operations_from client (number + 1) items) (λ z. open_first before item g.0 o (h z))
    (setup_opens items (before ++ item ∷ []) client (number + 1) (λ z. no_client_more before item c (h z)) g.1))
    (λ c o. setup_opens items (before ++ item ∷ []) client number (λ z. no_client_more before item c (h z)) g.1)

-- ## Holds and drops of one name

-- a `hold` where the name isn't held, and a `drop` where it is
hold_step : (m b held : Bool) (rest : Bool → Bool) → m ≡ b → (b ≡ true → held ≡ false) → rest (b || held) ≡ true → (cond m (not held) true && rest (cond m true held)) ≡ true
hold_step true true held rest e h g = let off : held ≡ false = h refl in ap (λ x. not x && rest true) off ∙ g
hold_step false false held rest e h g = g
hold_step true false held rest e h g = absurd (cc)
hold_step false true held rest e h g = absurd (cc)

drop_step : (m b held : Bool) (rest : Bool → Bool) → m ≡ b → (b ≡ true → held ≡ true) → rest (not b && held) ≡ true → (cond m held true && rest (cond m false held)) ≡ true
drop_step true true held rest e h g = let on : held ≡ true = h refl in ap (λ x. x && rest false) on ∙ g
drop_step false false held rest e h g = g
drop_step true false held rest e h g = absurd (cc)
drop_step false true held rest e h g = absurd (cc)

not_false : (b : Bool) → not b ≡ false → b ≡ true
not_false true e = refl
not_false false e = absurd (cc)

nothing_held : (item : Item) (name : List ℕ) (held : Bool) → is_client item ≡ false → is_operation item ≡ false → held_behind name held item ≡ held
nothing_held Client name held c o = absurd (cc)
nothing_held (Hold n) name held c o = absurd (cc)
nothing_held (Drop n) name held c o = absurd (cc)
nothing_held other name held c o = refl

client_drops : (item : Item) (name : List ℕ) (held : Bool) → is_client item ≡ true → held_behind name held item ≡ false
client_drops Client name held c = refl
client_drops other name held c = absurd (cc)

-- the number n is that of this name, among these
abbrev pub Numbers : List (List ℕ) → ℕ → List ℕ → Type 0
Numbers ns n name = (nm : List ℕ) → Has ns nm → (name_number ns nm == n) ≡ bytes_eq nm name

module _ (all : List Numbered) (ns : List (List ℕ)) (n : ℕ) (name : List ℕ) (numbers : Numbers ns n name) where
  task_step : (item : Item) (before : List Item) (x : Numbered) (held : Bool) (rest : List Task) → x.op.item ≡ item → IsPlaced before item → ((nm : List ℕ) → Has (mentioned item) nm → Has ns nm) → is_operation item ≡ true →
      held ≡ is_held before name → alternate n (held_behind name held item) rest ≡ true → alternate n held (cons_option (option_map (λ (op : Op). record { number = x.number; op = op }) (op_of all ns x item)) rest) ≡ true
  task_step (Open nm shape) before x held rest e g known o h again = again
  task_step (Fail nm code) before x held rest e g known o h again = again
  task_step (Hold nm) before x held rest e g known o h again =
      hold_step (name_number ns nm == n) (bytes_eq nm name) held (λ b. alternate n b rest) (numbers nm (known nm (zero, refl)))
      (λ t. h ∙ ap (is_held before) (sym ((bytes_eq-Decides nm name).0 t)) ∙ g.paired) again
  task_step (Drop nm) before x held rest e g known o h again =
      drop_step (name_number ns nm == n) (bytes_eq nm name) held (λ b. alternate n b rest) (numbers nm (known nm (zero, refl)))
      (λ t. h ∙ ap (is_held before) (sym ((bytes_eq-Decides nm name).0 t)) ∙ not_false (is_held before nm) g.paired) again
  task_step (Send nm bytes) before x held rest e g known o h again = again
  task_step (Call call) before x held rest e g known o h again = again
  task_step (Expire c i) before x held rest e g known o h again = again
  task_step (Join c i) before x held rest e g known o h again = again
  task_step other before x held rest e g known o h again = absurd (cc)

  -- the tasks of client c among these operations
  abbrev tasks_among : ℕ → ℕ → ℕ → List Operation → List Task
  tasks_among c place link ops = filter_map (task_of all ns) (of_client c (numbered_from place link ops))

  -- whether the name is held, where these items are the current client's
  abbrev HeldAt : ℕ → ℕ → List Item → Bool → Type 0
  HeldAt c client before held = (c ≡ client → held ≡ is_held before name) × (client < c → held ≡ false)

  abbrev Alternates : ℕ → ℕ → ℕ → Bool → List Operation → Type 0
  Alternates c place link held ops = alternate n held (tasks_among c place link ops) ≡ true

  -- behind a line that isn't an operation
  passes_by : (c client : ℕ) (before : List Item) (item : Item) (held : Bool) → is_client item ≡ false → is_operation item ≡ false → HeldAt c client before held → HeldAt c client (before ++ item ∷ []) held
  passes_by c client before item held o p h = (λ same. h.0 same ∙ sym (nothing_held item name (is_held before name) o p) ∙ sym (is_held_more before item name), h.1)

  -- as the next client begins
  client_begins : (c client : ℕ) (before : List Item) (item : Item) (held : Bool) → is_client item ≡ true → HeldAt c client before held → HeldAt c (client + 1) (before ++ item ∷ []) held
  client_begins c client before item held o h =
      (λ same. h.1 (omega (arith, same)) ∙ sym (client_drops item name (is_held before name) o) ∙ sym (is_held_more before item name), λ later. h.1 (omega (arith, later)))

  -- behind an operation of another client
  other_client : (c client : ℕ) (before : List Item) (item : Item) (held : Bool) → client ≢ c → HeldAt c client before held → HeldAt c client (before ++ item ∷ []) held
  other_client c client before item held other h = (λ same. absurd (other (sym same)), h.1)

  -- behind one of this client
  this_client : (c client : ℕ) (before : List Item) (item : Item) (held : Bool) → client ≡ c → HeldAt c client before held → HeldAt c client (before ++ item ∷ []) (held_behind name held item)
  this_client c client before item held this h =
      (λ same. ap (λ b. held_behind name b item) (h.0 same) ∙ sym (is_held_more before item name), λ later. absurd (omega (arith, later, this)))

  operation_step : (c client number place link : ℕ) (before : List Item) (item : Item) (held : Bool) (later : List Operation) → IsPlaced before item → ((nm : List ℕ) → Has (mentioned item) nm → Has ns nm) → is_operation item ≡ true → HeldAt c client before held →
      ((b : Bool) → HeldAt c client (before ++ item ∷ []) b → Alternates c (place + 1) (if is_open item then link + 1 else link) b later) →
      Alternates c place link held ((record { client = client; number = number; item = item }) ∷ later)
  operation_step c client number place link before item held later g known o h again =
      let op : Operation = record { client = client; number = number; item = item } in
      let x : Numbered = record { number = place; link = link; op = op } in
      let kept = of_client c (numbered_from (place + 1) (if is_open item then link + 1 else link) later) in
      elim (client == c) as (λ b. (client == c) ≡ b → alternate n held (filter_map (task_of all ns) (cond b (x ∷ kept) kept)) ≡ true) [
        | true ↦ λ t. let this : client ≡ c = grind (arith, nat_tests) in
            task_step item before x held (filter_map (task_of all ns) kept) refl g known o (h.0 (sym this)) (again (held_behind name held item) (this_client c client before item held this h))
        | false ↦ λ t. let other : client ≢ c = grind (arith, nat_tests) in again held (other_client c client before item held other h)
      ] refl

  pub alternates : (items before : List Item) (c client number place link : ℕ) (held : Bool) → ((item : Item) (nm : List ℕ) → Has items item → Has (mentioned item) nm → Has ns nm) → ArePlaced before items → HeldAt c client before held →
      Alternates c place link held (operations_from client number items)
  alternates [] before c client number place link held known g h = refl
  alternates (item ∷ items) before c client number place link held known g h =
      let later : (i : Item) (nm : List ℕ) → Has items i → Has (mentioned i) nm → Has ns nm = λ i nm there m. known i nm (has_later item items i there) m in
      behind_item client number item items (Alternates c place link held)
      (λ o. alternates items (before ++ item ∷ []) c (client + 1) 1 place link held later g.1 (client_begins c client before item held o h))
      (λ o p. operation_step c client number place link before item held (operations_from client (number + 1) items) g.0 (λ nm m. known item nm (has_first item items) m) p h
      (λ b k. alternates items (before ++ item ∷ []) c client (number + 1) (place + 1) (if is_open item then link + 1 else link) b later g.1 k))
      (λ o p. alternates items (before ++ item ∷ []) c client number place link held later g.1 (passes_by c client before item held o p h))

-- ## A number of which there is no `hold` or `drop`

abbrev pub Untouched : ℕ → Op → Type 0
Untouched n (ops.Hold m) = m ≢ n
Untouched n (ops.Drop m) = m ≢ n
Untouched n other = Unit {0}

not_same : (m n : ℕ) → m ≢ n → (m == n) ≡ false
not_same m n h = grind (arith, nat_tests)

untouched_step : (n : ℕ) (op : Op) (held : Bool) → Untouched n op → (goes_well n op held ≡ true) × (in_hand_behind n op held ≡ held)
untouched_step n (ops.Hold m) held h = let off = not_same m n h in (ap (λ b. cond b (not held) true) off, ap (λ b. cond b true held) off)
untouched_step n (ops.Drop m) held h = let off = not_same m n h in (ap (λ b. cond b held true) off, ap (λ b. cond b false held) off)
untouched_step n other held h = (refl, refl)

pub untouched : (n : ℕ) (ts : List Task) (held : Bool) → ((t : Task) → Has ts t → Untouched n t.op) → alternate n held ts ≡ true
untouched n [] held h = refl
untouched n (t ∷ ts) held h =
    let w = untouched_step n t.op held (h t (has_first t ts)) in
    ap (λ b. b && alternate n (in_hand_behind n t.op held) ts) w.0 ∙ ap (λ b. alternate n b ts) w.1 ∙ untouched n ts held (λ u g. h u (has_later t ts u g))
