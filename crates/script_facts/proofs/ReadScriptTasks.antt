-- The tasks of a script that was read are those that a table may be asked for.
use Rattle.std.proofs.Common.{◌≡◌, ◌≢◌, ℕ, ◌≤◌, ◌<◌, ◌+◌, ◌==◌, true, false, List, [], length, slice_get, bytes_eq, Option, Some, None, Ok, inl, inr, refl, ap, sym, ◌∙◌, subst, arith}
use Rattle.std.proofs.lemmas.Bool.{cases_lt, cases_eq}
use Rattle.std.proofs.lemmas.Bool.Decides.{Decides-eqb, same_from_decides}
use Rattle.std.proofs.lemmas.Option.{slice_get_within}
use Rattle.std.proofs.lemmas.Slice.Eq.{bytes_eq-Decides}
use Rattle.std.specs.List.{AllByRecursion}
use Rattle.brpc_model.specs.Items.{Item, Open, Send, Fail, is_open, mentioned}
use Rattle.brpc_model.specs.Operations.{Operation, operations, clients, link_names}
use Rattle.brpc_model.specs.Order.{EachBefore}
use Rattle.brpc_model.specs.LinePlaceFaults.{names}
use Rattle.brpc_model.specs.Script.{script_of}
use Rattle.seat_programs.specs.declared.task.Op.{Op}
use Rattle.seat_programs.specs.declared.task.Op.TheVariants as ops
use Rattle.seat_programs.specs.declared.task.Task.{Task}
use Rattle.seat_programs.specs.sock_message.specs.Asked.{Asked}
use Rattle.seat_programs.specs.Tasks.{Numbered, numbered, of_client, op_of, task_of, tasks, name_number, plan_of}
use Rattle.seat_programs.specs.ScriptSetupToEnding.{all_tasks}
use Rattle.seat_programs.specs.Explained.{AskedFits, OpFits, TaskFits, HaveOwnLinks, Differ, IsOpen, alternate, AreTasks}
use Rattle.script_facts.proofs.FilteredLists.{Has, some_is, all_from, all_at, before_from, before_filter, before_filter_map, filter_short, filter_map_short}
use Rattle.script_facts.proofs.NameNumbers.{number_at, number_within, mentioned_has}
use Rattle.script_facts.proofs.OperationNumbering.{link_at, is_numbered, are_from, link_later, numbered_length}
use Rattle.script_facts.proofs.TaskLemmas.{tasks_length, of_tasks, IsTaskOf, numbers_at, asks_at, has_task, map_is, open_asks, send_asks, call_asks, expire_asks, join_asks, hold_asks, drop_asks, fail_asks, target_low, mentions_open, mentions_send, mentions_hold, mentions_drop, mentions_fail, named_at}
use Rattle.script_facts.proofs.ReadScriptFacts.{InRange, ArePlaced, are_placed}
use Rattle.script_facts.proofs.ScriptSizes.{is_counted, operation_count}
use Rattle.script_facts.proofs.Called.{called_fits}
use Rattle.script_facts.proofs.Alternating.{setup_opens, Numbers, alternates, Untouched, untouched}

-- ## Each client's tasks

module _ (script : List Item) where
  -- what holds of each client's tasks holds of all clients
  each_client : (P : List Task → Type 0) → ((c : ℕ) → c ≤ clients script → P (tasks script c)) → AllByRecursion P (all_tasks script)
  each_client P h = all_from P (all_tasks script) (λ ts g. let w = of_tasks script g.0 ts g.1 in subst P w.1 (h g.0 w.0))

  -- ## Numbers

  fail_code : (name : List ℕ) (code : ℕ) → AllByRecursion InRange script → Has script (Fail name code) → code ≢ 0
  fail_code name code range h e = let w = all_at InRange script (Fail name code) range h in absurd (omega (arith, w.0, e))

  small_code : (name : List ℕ) (code : ℕ) → AllByRecursion InRange script → Has script (Fail name code) → code < 4096
  small_code name code range h = let w = all_at InRange script (Fail name code) range h in omega (arith, w.1)

  sent_bytes : (name bytes : List ℕ) → AllByRecursion InRange script → Has script (Send name bytes) → (bytes ≢ []) × (length bytes ≤ 65536)
  sent_bytes name bytes range h = let w = all_at InRange script (Send name bytes) range h in (λ e. absurd (omega (arith, w.0, ap length e)), w.1)

  op_fits : AllByRecursion InRange script → (i : ℕ) (q : Operation) → slice_get (operations script) i ≡ Some q → (op : Op) → asks_at script i q ≡ Some op → OpFits (plan_of script) op
  op_fits range i q there (ops.Open n k) e =
      let w = open_asks (numbered script) (names script) (numbers_at script i q) q.item n k e in
      let mentions = mentions_open script i q there w.0 w.1 w.2 in
      let named = named_at script i q w.0 w.1 there w.2 in
      (omega (arith, w.3, number_within (names script) w.0 mentions), omega (arith, w.4, slice_get_within (link_names script) (link_at (operations script) i) w.0 named))
  op_fits range i q there (ops.Send n bytes) e =
      let w = send_asks (numbered script) (names script) (numbers_at script i q) q.item n bytes e in
      let mentions = mentions_send script i q there w.0 bytes w.1 in
      let P : Item → Type 0 = λ x. Has script x in
      let sent = sent_bytes w.0 bytes range (subst P w.1 (are_from 0 1 script i q there).there) in
      (omega (arith, w.2, number_within (names script) w.0 mentions), sent.0, sent.1)
  op_fits range i q there (ops.Hold n) e =
      let w = hold_asks (numbered script) (names script) (numbers_at script i q) q.item n e in
      let mentions = mentions_hold script i q there w.0 w.1 in
      omega (arith, w.2, number_within (names script) w.0 mentions)
  op_fits range i q there (ops.Drop n) e =
      let w = drop_asks (numbered script) (names script) (numbers_at script i q) q.item n e in
      let mentions = mentions_drop script i q there w.0 w.1 in
      omega (arith, w.2, number_within (names script) w.0 mentions)
  op_fits range i q there (ops.Fail n code) e =
      let w = fail_asks (numbered script) (names script) (numbers_at script i q) q.item n code e in
      let mentions = mentions_fail script i q there w.0 code w.1 in
      let P : Item → Type 0 = λ x. Has script x in
      let has = subst P w.1 (are_from 0 1 script i q there).there in
      (omega (arith, w.2, number_within (names script) w.0 mentions), fail_code w.0 code range has, small_code w.0 code range has)
  op_fits range i q there (ops.Call asked) e =
      let w = call_asks (numbered script) (names script) (numbers_at script i q) q.item asked e in
      let P : Item → Type 0 = λ x. Has script x in
      let Q : Asked → Type 0 = λ x. AskedFits (plan_of script) x in
      subst Q (sym w.2) (called_fits script range w.0 (subst P w.1 (are_from 0 1 script i q there).there) i (slice_get_within (operations script) i q there))
  op_fits range i q there (ops.Expire t) e =
      let w = expire_asks (numbered script) (names script) (numbers_at script i q) q.item t e in
      let inside = slice_get_within (operations script) i q there in
      omega (arith, w.3, target_low script w.0 w.1 (omega (arith, inside)))
  op_fits range i q there (ops.Join t) e =
      let w = join_asks (numbered script) (names script) (numbers_at script i q) q.item t e in
      let inside = slice_get_within (operations script) i q there in
      omega (arith, w.3, target_low script w.0 w.1 (omega (arith, inside)))

  tasks_fit : AllByRecursion InRange script → (c : ℕ) → AllByRecursion (TaskFits (plan_of script)) (tasks script c)
  tasks_fit range c = all_from (TaskFits (plan_of script)) (tasks script c) (λ t h.
      let w = has_task script c t h in
      (slice_get_within (operations script) t.number w.operation w.there, op_fits range t.number w.operation w.there t.op w.asks))

  -- ## Order

  own_links : (a b : Op) → ((n k m l : ℕ) → a ≡ ops.Open n k → b ≡ ops.Open m l → k ≢ l) → HaveOwnLinks a b
  own_links (ops.Open n k) (ops.Open m l) h = h n k m l refl refl
  own_links a b h = tt

  abbrev Ascend : Numbered → Numbered → Type 0
  Ascend x y = (x.number < y.number) × (is_open x.op.item ≡ true → x.link < y.link)

  ascending : EachBefore Ascend (numbered script)
  ascending = before_from Ascend (numbered script) (λ i j x y less e f.
      let v = is_numbered 0 0 (operations script) i x e in
      let w = is_numbered 0 0 (operations script) j y f in
      (omega (arith, less, v.number, w.number), λ o. omega (arith, link_later (operations script) i j x.op v.op o less, v.link, w.link)))

  abbrev InOrder : Task → Task → Type 0
  InOrder a b = (a.number < b.number) × HaveOwnLinks a.op b.op

  in_order : (x y : Numbered) (a b : Task) → Ascend x y → task_of (numbered script) (names script) x ≡ Some a → task_of (numbered script) (names script) y ≡ Some b → InOrder a b
  in_order x y a b h e f =
      let v = map_is (op_of (numbered script) (names script) x x.op.item) x.number a e in
      let w = map_is (op_of (numbered script) (names script) y y.op.item) y.number b f in (
        omega (arith, h.0, v.0, w.0),
        own_links a.op b.op (λ n k m l is_a is_b same.
            let p = open_asks (numbered script) (names script) x x.op.item n k (v.1 ∙ ap Some is_a) in
            let q = open_asks (numbered script) (names script) y y.op.item m l (w.1 ∙ ap Some is_b) in
            absurd (omega (arith, h.1 (ap is_open p.2), p.4, q.4, same))),
      )

  tasks_in_order : (c : ℕ) → EachBefore InOrder (tasks script c)
  tasks_in_order c = before_filter_map Ascend InOrder (task_of (numbered script) (names script)) in_order (of_client c (numbered script))
      (before_filter Ascend (λ (x : Numbered). x.op.client == c) (numbered script) ascending)

  -- ## Two clients' tasks

  -- two opens with one link are one operation
  same_link : (i j : ℕ) (p q : Operation) → slice_get (operations script) i ≡ Some p → slice_get (operations script) j ≡ Some q → is_open p.item ≡ true → is_open q.item ≡ true → link_at (operations script) i ≡ link_at (operations script) j → i ≡ j
  same_link i j p q e f o r same = elim (cases_lt i j) [
    | inl less ↦ absurd (omega (arith, link_later (operations script) i j p e o less, same))
    | inr high ↦ elim (cases_lt j i) [
      | inl less ↦ absurd (omega (arith, link_later (operations script) j i q f r less, same))
      | inr low ↦ omega (arith, high, low)
    ]
  ]

  of_two : (c d : ℕ) (t u : Task) → c ≢ d → IsTaskOf script c t → IsTaskOf script d u → Differ t u
  of_two c d t u apart v w =
      let other : t.number ≢ u.number = λ e.
      let same : v.operation ≡ w.operation = some_is v.operation w.operation (sym v.there ∙ ap (slice_get (operations script)) e ∙ w.there) in
      apart (sym v.own ∙ ap (λ (x : Operation). x.client) same ∙ w.own) in (
        other,
        own_links t.op u.op (λ n k m l is_t is_u e.
            let p = open_asks (numbered script) (names script) (numbers_at script t.number v.operation) v.operation.item n k (v.asks ∙ ap Some is_t) in
            let q = open_asks (numbered script) (names script) (numbers_at script u.number w.operation) w.operation.item m l (w.asks ∙ ap Some is_u) in
            other (same_link t.number u.number v.operation w.operation v.there w.there (ap is_open p.2) (ap is_open q.2) (sym p.4 ∙ e ∙ q.4))),
      )

  clients_differ : EachBefore (λ (ts us : List Task). AllByRecursion (λ (t : Task). AllByRecursion (Differ t) us) ts) (all_tasks script)
  clients_differ = before_from (λ (ts us : List Task). AllByRecursion (λ (t : Task). AllByRecursion (Differ t) us) ts) (all_tasks script) (λ i j ts us less e f.
      let a = of_tasks script i ts e in
      let b = of_tasks script j us f in
      let P : List Task → Type 0 = λ xs. AllByRecursion (λ (t : Task). AllByRecursion (Differ t) us) xs in
      let Q : List Task → Type 0 = λ ys. AllByRecursion (λ (t : Task). AllByRecursion (Differ t) ys) (tasks script i) in
      subst P a.1 (subst Q b.1 (all_from (λ (t : Task). AllByRecursion (Differ t) (tasks script j)) (tasks script i) (λ t g.
      all_from (Differ t) (tasks script j) (λ u h. of_two i j t u (λ z. omega (arith, z, less)) (has_task script i t g) (has_task script j u h))))))

  -- ## The setup

  opens_only : (all : List Numbered) (ns : List (List ℕ)) (x : Numbered) (item : Item) (op : Op) → is_open item ≡ true → op_of all ns x item ≡ Some op → IsOpen op
  opens_only all ns x (Open name shape) op o e = subst IsOpen (some_is (ops.Open (name_number ns name) x.link) op e) tt
  opens_only all ns x other op o e = absurd (cc)

  setup_is : ArePlaced [] script → (ts : List Task) → slice_get (all_tasks script) 0 ≡ Some ts → AllByRecursion (λ (t : Task). IsOpen t.op) ts
  setup_is placed ts e =
      let w = of_tasks script 0 ts e in
      let P : List Task → Type 0 = λ xs. AllByRecursion (λ (t : Task). IsOpen t.op) xs in
      subst P w.1 (all_from (λ (t : Task). IsOpen t.op) (tasks script 0) (λ t h.
      let v = has_task script 0 t h in
      opens_only (numbered script) (names script) (numbers_at script t.number v.operation) v.operation.item t.op
      (setup_opens script [] 0 1 (λ z. refl) placed t.number v.operation v.there v.own) v.asks))

  -- ## Holds and drops

  -- no name of the script has the number
  abbrev IsNobodys : ℕ → Type 0
  IsNobodys n = (nm : List ℕ) → Has (names script) nm → name_number (names script) nm ≢ n

  untouched_op : (n i : ℕ) (q : Operation) → slice_get (operations script) i ≡ Some q → IsNobodys n → (op : Op) → asks_at script i q ≡ Some op → Untouched n op
  untouched_op n i q there none (ops.Hold m) e =
      let w = hold_asks (numbered script) (names script) (numbers_at script i q) q.item m e in
      λ same. none w.0 (mentions_hold script i q there w.0 w.1) (sym w.2 ∙ same)
  untouched_op n i q there none (ops.Drop m) e =
      let w = drop_asks (numbered script) (names script) (numbers_at script i q) q.item m e in
      λ same. none w.0 (mentions_drop script i q there w.0 w.1) (sym w.2 ∙ same)
  untouched_op n i q there none other e = tt

  nobody : (n c : ℕ) → IsNobodys n → alternate n false (tasks script c) ≡ true
  nobody n c none = untouched n (tasks script c) false (λ t h. let w = has_task script c t h in untouched_op n t.number w.operation w.there none t.op w.asks)

  numbers : (n : ℕ) (name : List ℕ) → slice_get (names script) n ≡ Some name → name_number (names script) name ≡ n → Numbers (names script) n name
  numbers n name there own nm h =
      let x = name_number (names script) nm in
      let to : (x == n) ≡ true → nm ≡ name = λ t. let same : x ≡ n = (Decides-eqb x n).0 t in some_is nm name (sym (number_at (names script) nm h) ∙ ap (slice_get (names script)) same ∙ there) in
      let from : nm ≡ name → (x == n) ≡ true = λ e. (Decides-eqb x n).1 (ap (name_number (names script)) e ∙ own) in
      same_from_decides (x == n) (bytes_eq nm name) (to, from) (bytes_eq-Decides nm name)

  mentioned_names : (item : Item) (nm : List ℕ) → Has script item → Has (mentioned item) nm → Has (names script) nm
  mentioned_names item nm h g = mentioned_has script item nm h g

  -- by whose number it is
  by_name : ArePlaced [] script → (n c : ℕ) (o : Option (List ℕ)) → slice_get (names script) n ≡ o → alternate n false (tasks script c) ≡ true
  by_name placed n c None e = nobody n c (λ nm h same. let here : Some nm ≡ None = sym (number_at (names script) nm h) ∙ ap (slice_get (names script)) same ∙ e in absurd (cc))
  by_name placed n c (Some name) e = elim (cases_eq (name_number (names script) name) n) [
    | inl own ↦ alternates (numbered script) (names script) n name (numbers n name e own) script [] c 0 1 0 0 false mentioned_names placed (λ z. refl, λ z. refl)
    | inr other ↦ nobody n c (λ nm h same. other (
        let is : nm ≡ name = some_is nm name (sym (number_at (names script) nm h) ∙ ap (slice_get (names script)) same ∙ e) in
        ap (name_number (names script)) (sym is) ∙ same
        ))
  ]

  alternating : ArePlaced [] script → (n c : ℕ) → alternate n false (tasks script c) ≡ true
  alternating placed n c = by_name placed n c (slice_get (names script) n) refl

  -- ## How many

  few_tasks : length (operations script) ≤ 4096 → (c : ℕ) → length (tasks script c) ≤ 4096
  few_tasks few c = omega (
    arith,
    few,
    filter_map_short (task_of (numbered script) (names script)) (of_client c (numbered script)),
    filter_short (λ (x : Numbered). x.op.client == c) (numbered script),
    numbered_length 0 0 (operations script),
  )

-- ## The whole

-- the tasks of each script that was read are those of its table
pub tasks_of_script : (bytes : List ℕ) (script : List Item) → script_of bytes ≡ Ok script → AreTasks (plan_of script) (all_tasks script)
tasks_of_script bytes script e =
    let counted = is_counted bytes script e in
    let placed = are_placed bytes script e in
    let few : length (operations script) ≤ 4096 = omega (arith, counted.operations, operation_count 0 1 script) in
    let Fit : List Task → Type 0 = λ ts. AllByRecursion (TaskFits (plan_of script)) ts in
    record {
      some_ = omega (arith, tasks_length script 0 (clients script + 1));
      fit = each_client script Fit (λ c h. tasks_fit script counted.in_range c);
      in_order = each_client script (λ ts. EachBefore (InOrder script) ts) (λ c h. tasks_in_order script c);
      differ = clients_differ script;
      setup = setup_is script placed;
      alternating = λ n. each_client script (λ ts. alternate n false ts ≡ true) (λ c h. alternating script placed n c);
      few = each_client script (λ ts. length ts ≤ 4096) (λ c h. few_tasks script few c);
    }
