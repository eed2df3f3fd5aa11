-- The tasks of a script, and the operations that they are.
use Rattle.std.proofs.Common.{◌≡◌, ℕ, zero, suc, ◌+◌, ◌<◌, ◌≤◌, ◌==◌, ◌&&◌, true, false, cond, List, [], ◌∷◌, length, slice_get, option_map, Option, Some, None, refl, ap, sym, ◌∙◌, subst, arith}
use Rattle.std.proofs.lemmas.Bool.Decides.{nat_tests}
use Rattle.std.proofs.lemmas.Option.{slice_get_within}
use Rattle.sock_words.specs.declared.outcome.Outcome.{Outcome}
use Rattle.brpc_model.specs.Items.{Item, Open, Send, Call, Expire, Join, Fail, Hold, Drop, CallLine, Shape, is_operation, mentioned, opened_name}
use Rattle.brpc_model.specs.Operations.{Operation, operations, clients, link_names}
use Rattle.brpc_model.specs.LinePlaceFaults.{names}
use Rattle.seat_programs.specs.declared.task.Op.{Op}
use Rattle.seat_programs.specs.declared.task.Op.TheVariants as ops
use Rattle.seat_programs.specs.declared.task.Task.{Task}
use Rattle.seat_programs.specs.sock_message.specs.Asked.{Asked}
use Rattle.seat_programs.specs.Tasks.{Numbered, numbered, of_client, op_of, task_of, tasks, name_number, number_of, asked_of}
use Rattle.seat_programs.specs.ScriptSetupToEnding.{tasks_from, all_tasks}
use Rattle.seat_programs.specs.Explained.{IsTask}
use Rattle.script_facts.proofs.FilteredLists.{Has, has_first, has_later, has_from, contains_from, some_is, filter_has, has_filter, filter_map_has, has_filter_map}
use Rattle.script_facts.proofs.NameNumbers.{mentioned_has}
use Rattle.script_facts.proofs.OperationNumbering.{link_at, is_numbered, numbered_at, are_from, opened_by, names_of_operations, link_name_at}

-- ## Which client's tasks

pub tasks_at : (script : List Item) (from n k : ℕ) → k < n → slice_get (tasks_from script from n) k ≡ Some (tasks script (from + k))
tasks_at script from zero k h = absurd (omega (arith, h))
tasks_at script from (suc n) zero h = let same : from ≡ from + 0 = omega arith in ap (λ c. Some (tasks script c)) same
tasks_at script from (suc n) (suc k) h =
    let same : (from + 1) + k ≡ from + suc k = omega arith in
    tasks_at script (from + 1) n k (omega (arith, h)) ∙ ap (λ c. Some (tasks script c)) same

pub tasks_length : (script : List Item) (from n : ℕ) → length (tasks_from script from n) ≡ n
tasks_length script from zero = refl
tasks_length script from (suc n) = ap suc (tasks_length script (from + 1) n)

-- the tasks of each client, of which there are one more than clients
pub tasks_of : (script : List Item) (c : ℕ) → c ≤ clients script → slice_get (all_tasks script) c ≡ Some (tasks script c)
tasks_of script c h = tasks_at script 0 (clients script + 1) c (omega (arith, h)) ∙ ap (λ x. Some (tasks script x)) (let same : 0 + c ≡ c = omega arith in same)

pub of_tasks : (script : List Item) (c : ℕ) (ts : List Task) → slice_get (all_tasks script) c ≡ Some ts → (c ≤ clients script) × (tasks script c ≡ ts)
of_tasks script c ts e =
    let within : c ≤ clients script = omega (arith, slice_get_within (all_tasks script) c ts e, tasks_length script 0 (clients script + 1)) in
    (within, some_is (tasks script c) ts (sym (tasks_of script c within) ∙ e))

-- ## The operation of a task

-- operation i with its numbers, and what it asks for
abbrev pub numbers_at : List Item → ℕ → Operation → Numbered
numbers_at script i q = record { number = i; link = link_at (operations script) i; op = q }

abbrev pub asks_at : List Item → ℕ → Operation → Option Op
asks_at script i q = op_of (numbered script) (names script) (numbers_at script i q) q.item

-- the operation that the task is
pub record IsTaskOf (script : List Item) (c : ℕ) (t : Task) : Type 0 where
  pub operation : Operation
  pub there : slice_get (operations script) t.number ≡ Some operation
  pub own : operation.client ≡ c
  pub asks : asks_at script t.number operation ≡ Some t.op

pub map_is : (o : Option Op) (number : ℕ) (t : Task) → option_map (λ (op : Op). record { number = number; op = op }) o ≡ Some t → (number ≡ t.number) × (o ≡ Some t.op)
map_is None number t e = absurd (cc)
map_is (Some op) number t e =
    let made : Task = record { number = number; op = op } in
    let same : made ≡ t = some_is made t e in
    (ap (λ (x : Task). x.number) same, ap (λ (x : Task). Some x.op) same)

numbered_task : (script : List Item) (c : ℕ) (t : Task) (x : Numbered) → Has (numbered script) x → (x.op.client == c) ≡ true → task_of (numbered script) (names script) x ≡ Some t → IsTaskOf script c t
numbered_task script c t x there own e =
    let w = is_numbered 0 0 (operations script) there.0 x there.1 in
    let m = map_is (op_of (numbered script) (names script) x x.op.item) x.number t e in
    let number : there.0 ≡ t.number = omega (arith, m.0, w.number) in
    let link : x.link ≡ link_at (operations script) there.0 = omega (arith, w.link) in
    record {
      operation = x.op;
      there = ap (slice_get (operations script)) (sym number) ∙ w.op;
      own = grind (arith, nat_tests, own);
      asks = ap (λ l. op_of (numbered script) (names script) (record { number = t.number; link = link_at (operations script) l; op = x.op }) x.op.item) (sym number)
          ∙ ap (λ l. op_of (numbered script) (names script) (record { number = t.number; link = l; op = x.op }) x.op.item) (sym link)
          ∙ ap (λ n. op_of (numbered script) (names script) (record { number = n; link = x.link; op = x.op }) x.op.item) (sym m.0)
          ∙ m.1;
    }

pub has_task : (script : List Item) (c : ℕ) (t : Task) → Has (tasks script c) t → IsTaskOf script c t
has_task script c t h =
    let w = filter_map_has (task_of (numbered script) (names script)) (of_client c (numbered script)) t h in
    let f = filter_has (λ (n : Numbered). n.op.client == c) (numbered script) w.0 w.1 in
    numbered_task script c t w.0 f.0 f.1 w.2

pub task_is : (script : List Item) (os : List (Option Outcome)) (c : ℕ) (t : Task) → IsTask (all_tasks script) os c t → IsTaskOf script c t
task_is script os c t w =
    let of_c = of_tasks script c w.0 w.1 in
    let P : List Task → Type 0 = λ ts. Has ts t in
    has_task script c t (subst P (sym of_c.1) (has_from w.0 t w.2))

-- ## The task of an operation

pub operation_task : (script : List Item) (os : List (Option Outcome)) (i : ℕ) (operation : Operation) (op : Op) → slice_get (operations script) i ≡ Some operation →
    asks_at script i operation ≡ Some op → IsTask (all_tasks script) os operation.client (record { number = i; op = op })
operation_task script os i operation op e f =
    let x : Numbered = record { number = 0 + i; link = 0 + link_at (operations script) i; op = operation } in
    let number : 0 + i ≡ i = omega arith in
    let link : 0 + link_at (operations script) i ≡ link_at (operations script) i = omega arith in
    let asks : Numbered → Option Op = λ y. op_of (numbered script) (names script) y operation.item in
    let made : task_of (numbered script) (names script) x ≡ Some (record { number = i; op = op }) =
    ap (λ l. option_map (λ (o : Op). record { number = 0 + i; op = o }) (asks (record { number = 0 + i; link = l; op = operation }))) link
    ∙ ap (λ n. option_map (λ (o : Op). record { number = 0 + i; op = o }) (asks (record { number = n; link = link_at (operations script) i; op = operation }))) number
    ∙ ap (option_map (λ (o : Op). record { number = 0 + i; op = o })) f
    ∙ ap (λ n. Some (record { number = n; op = op })) number in
    let t : Task = record { number = i; op = op } in
    let same : (operation.client == operation.client) ≡ true = grind (arith, nat_tests) in
    let has : Has (tasks script operation.client) t = has_filter_map (task_of (numbered script) (names script)) (of_client operation.client (numbered script)) x t
    (has_filter (λ (n : Numbered). n.op.client == operation.client) (numbered script) x (i, numbered_at 0 0 (operations script) i operation e) same) made in
    let high : operation.client ≤ clients script = omega (arith, (are_from 0 1 script i operation e).high) in
    (tasks script operation.client, tasks_of script operation.client high, contains_from (tasks script operation.client) t has)

-- ## Each operation asks for something

asks_something : (all : List Numbered) (ns : List (List ℕ)) (x : Numbered) (item : Item) → is_operation item ≡ true → (op : Op) × (op_of all ns x item ≡ Some op)
asks_something all ns x (Open name shape) o = (ops.Open (name_number ns name) x.link, refl)
asks_something all ns x (Send name bytes) o = (ops.Send (name_number ns name) bytes, refl)
asks_something all ns x (Call call) o = (ops.Call (asked_of ns x.number call), refl)
asks_something all ns x (Expire c i) o = (ops.Expire (number_of all c i), refl)
asks_something all ns x (Join c i) o = (ops.Join (number_of all c i), refl)
asks_something all ns x (Hold name) o = (ops.Hold (name_number ns name), refl)
asks_something all ns x (Drop name) o = (ops.Drop (name_number ns name), refl)
asks_something all ns x (Fail name code) o = (ops.Fail (name_number ns name) code, refl)
asks_something all ns x other o = absurd (cc)

pub asked_at : (script : List Item) (i : ℕ) (q : Operation) → slice_get (operations script) i ≡ Some q → (op : Op) × (asks_at script i q ≡ Some op)
asked_at script i q e = asks_something (numbered script) (names script) (numbers_at script i q) q.item (are_from 0 1 script i q e).is

-- ## What an operation asks for

pub open_asks : (all : List Numbered) (ns : List (List ℕ)) (x : Numbered) (item : Item) (n k : ℕ) → op_of all ns x item ≡ Some (ops.Open n k) → (name : List ℕ) × (shape : Shape) × (item ≡ Open name shape) × (n ≡ name_number ns name) × (k ≡ x.link)
open_asks all ns x (Open name shape) n k e =
    let same : ops.Open (name_number ns name) x.link ≡ ops.Open n k = some_is _ (ops.Open n k) e in
    (name, shape, refl, cc, cc)
open_asks all ns x other n k e = absurd (cc)

pub send_asks : (all : List Numbered) (ns : List (List ℕ)) (x : Numbered) (item : Item) (n : ℕ) (bytes : List ℕ) → op_of all ns x item ≡ Some (ops.Send n bytes) → (name : List ℕ) × (item ≡ Send name bytes) × (n ≡ name_number ns name)
send_asks all ns x (Send name given) n bytes e = let same : ops.Send (name_number ns name) given ≡ ops.Send n bytes = some_is _ (ops.Send n bytes) e in let bytes_are : given ≡ bytes = cc in (name, ap (Send name) bytes_are, cc)
send_asks all ns x other n bytes e = absurd (cc)

pub hold_asks : (all : List Numbered) (ns : List (List ℕ)) (x : Numbered) (item : Item) (n : ℕ) → op_of all ns x item ≡ Some (ops.Hold n) → (name : List ℕ) × (item ≡ Hold name) × (n ≡ name_number ns name)
hold_asks all ns x (Hold name) n e = let same : ops.Hold (name_number ns name) ≡ ops.Hold n = some_is _ (ops.Hold n) e in (name, refl, cc)
hold_asks all ns x other n e = absurd (cc)

pub fail_asks : (all : List Numbered) (ns : List (List ℕ)) (x : Numbered) (item : Item) (n c : ℕ) → op_of all ns x item ≡ Some (ops.Fail n c) → (name : List ℕ) × (item ≡ Fail name c) × (n ≡ name_number ns name)
fail_asks all ns x (Fail name code) n c e = let same : ops.Fail (name_number ns name) code ≡ ops.Fail n c = some_is _ (ops.Fail n c) e in let code_is : code ≡ c = cc in (name, ap (Fail name) code_is, cc)
fail_asks all ns x other n c e = absurd (cc)

pub drop_asks : (all : List Numbered) (ns : List (List ℕ)) (x : Numbered) (item : Item) (n : ℕ) → op_of all ns x item ≡ Some (ops.Drop n) → (name : List ℕ) × (item ≡ Drop name) × (n ≡ name_number ns name)
drop_asks all ns x (Drop name) n e = let same : ops.Drop (name_number ns name) ≡ ops.Drop n = some_is _ (ops.Drop n) e in (name, refl, cc)
drop_asks all ns x other n e = absurd (cc)

pub call_asks : (all : List Numbered) (ns : List (List ℕ)) (x : Numbered) (item : Item) (asked : Asked) → op_of all ns x item ≡ Some (ops.Call asked) → (call : CallLine) × (item ≡ Call call) × (asked ≡ asked_of ns x.number call)
call_asks all ns x (Call call) asked e =
    let same : ops.Call (asked_of ns x.number call) ≡ ops.Call asked = some_is _ (ops.Call asked) e in
    let asked_is : asked_of ns x.number call ≡ asked = cc in
    (call, refl, sym asked_is)
call_asks all ns x other asked e = absurd (cc)

pub expire_asks : (all : List Numbered) (ns : List (List ℕ)) (x : Numbered) (item : Item) (t : ℕ) → op_of all ns x item ≡ Some (ops.Expire t) → (c i : ℕ) × (item ≡ Expire c i) × (t ≡ number_of all c i)
expire_asks all ns x (Expire c i) t e =
    let same : ops.Expire (number_of all c i) ≡ ops.Expire t = some_is _ (ops.Expire t) e in
    (c, i, refl, cc)
expire_asks all ns x other t e = absurd (cc)

pub join_asks : (all : List Numbered) (ns : List (List ℕ)) (x : Numbered) (item : Item) (t : ℕ) → op_of all ns x item ≡ Some (ops.Join t) → (c i : ℕ) × (item ≡ Join c i) × (t ≡ number_of all c i)
join_asks all ns x (Join c i) t e =
    let same : ops.Join (number_of all c i) ≡ ops.Join t = some_is _ (ops.Join t) e in
    (c, i, refl, cc)
join_asks all ns x other t e = absurd (cc)

-- ## The names and links of operations

-- a name that an operation mentions is one of the script's
mentions_at : (script : List Item) (i : ℕ) (q : Operation) → slice_get (operations script) i ≡ Some q → (name : List ℕ) (item : Item) → q.item ≡ item → Has (mentioned item) name → Has (names script) name
mentions_at script i q e name item same h =
    let P : Item → Type 0 = λ x. Has (mentioned x) name in
    mentioned_has script q.item name (are_from 0 1 script i q e).there (subst P (sym same) h)

pub mentions_open : (script : List Item) (i : ℕ) (q : Operation) → slice_get (operations script) i ≡ Some q → (name : List ℕ) (shape : Shape) → q.item ≡ Open name shape → Has (names script) name
mentions_open script i q there name shape e = mentions_at script i q there name (Open name shape) e (zero, refl)

pub mentions_send : (script : List Item) (i : ℕ) (q : Operation) → slice_get (operations script) i ≡ Some q → (name bytes : List ℕ) → q.item ≡ Send name bytes → Has (names script) name
mentions_send script i q there name bytes e = mentions_at script i q there name (Send name bytes) e (zero, refl)

pub mentions_hold : (script : List Item) (i : ℕ) (q : Operation) → slice_get (operations script) i ≡ Some q → (name : List ℕ) → q.item ≡ Hold name → Has (names script) name
mentions_hold script i q there name e = mentions_at script i q there name (Hold name) e (zero, refl)

pub mentions_drop : (script : List Item) (i : ℕ) (q : Operation) → slice_get (operations script) i ≡ Some q → (name : List ℕ) → q.item ≡ Drop name → Has (names script) name
mentions_drop script i q there name e = mentions_at script i q there name (Drop name) e (zero, refl)

pub mentions_fail : (script : List Item) (i : ℕ) (q : Operation) → slice_get (operations script) i ≡ Some q → (name : List ℕ) (code : ℕ) → q.item ≡ Fail name code → Has (names script) name
mentions_fail script i q there name code e = mentions_at script i q there name (Fail name code) e (zero, refl)

-- the link of an `open` is the script's, under its name
pub named_at : (script : List Item) (j : ℕ) (q : Operation) (name : List ℕ) (shape : Shape) → slice_get (operations script) j ≡ Some q → q.item ≡ Open name shape → slice_get (link_names script) (link_at (operations script) j) ≡ Some name
named_at script j q name shape e item =
    let by_name : opened_by q ≡ Some name = ap opened_name item in
    ap (λ x. slice_get x (link_at (operations script) j)) (names_of_operations 0 1 script) ∙ link_name_at (operations script) j q name e by_name

-- ## The calls that an `expire` or a `join` names

number_low : (client i bound : ℕ) (all : List Numbered) → ((x : Numbered) → Has all x → x.number < bound) → 0 < bound → number_of all client i < bound
number_low client i bound [] low some_ = some_
number_low client i bound (x ∷ xs) low some_ = elim ((x.op.client == client) && (x.op.number == i)) as (λ b. cond b x.number (number_of xs client i) < bound) [
  | true ↦ low x (has_first x xs)
  | false ↦ number_low client i bound xs (λ y h. low y (has_later x xs y h)) some_
]

pub target_low : (script : List Item) (client i : ℕ) → 0 < length (operations script) → number_of (numbered script) client i < length (operations script)
target_low script client i some_ = number_low client i (length (operations script)) (numbered script) (λ x h.
    let w = is_numbered 0 0 (operations script) h.0 x h.1 in omega (arith, w.number, slice_get_within (operations script) h.0 x.op w.op)) some_
