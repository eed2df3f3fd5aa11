-- Line by line the tasks, the `open`s and the calls are those of a script.
use Rattle.std.proofs.Common.{◌≡◌, ◌≢◌, ℕ, zero, suc, ◌+◌, ◌<◌, ◌≤◌, ◌==◌, subst, Bool, true, false, cond, if◌then◌else◌, List, [], ◌∷◌, ◌++◌, length, filter_map, Option, Some, None, option_to_list, append_assoc, append-nil, refl, ap, sym, ◌∙◌, arith}
use Rattle.std.proofs.lemmas.Bool.Decides.{nat_tests}
use Rattle.std.proofs.lemmas.List.Sums.{sum_by-cons}
use Rattle.std.specs.Prelude.{option_map}
use Rattle.std.specs.List.{AllByRecursion, cons_option}
use Rattle.brpc_model.specs.Items.{Item, Slots, Requests, First, Client, Open, Send, Call, Expire, Join, Fail, Hold, Drop, Sched, Tick, To, is_client, is_operation, is_open, is_call}
use Rattle.brpc_model.specs.Operations.{Operation, operations_from, clients}
use Rattle.brpc_model.specs.LinePlaceFaults.{names}
use Rattle.seat_programs.specs.declared.task.Op.{Op}
use Rattle.seat_programs.specs.declared.task.Task.{Task}
use Rattle.seat_programs.specs.Tasks.{Numbered, numbered_from, numbered, of_client, op_of, task_of, tasks, opens, calls}
use Rattle.seat_programs.specs.ScriptSetupToEnding.{tasks_from, all_tasks}
use Rattle.script_lang.specs.TasksByLine.{IsShort, numbered_as, task_at, tasks_along, numbers_along}

-- ## The tasks of clients among numbered operations

abbrev pub of_one : List Numbered → List (List ℕ) → List Numbered → ℕ → List Task
of_one all ns xs c = filter_map (task_of all ns) (of_client c xs)

-- of so many clients from this one on
abbrev pub of_each : List Numbered → List (List ℕ) → List Numbered → ℕ → ℕ → List (List Task)
of_each all ns xs c zero = []
of_each all ns xs c (suc n) = of_one all ns xs c ∷ of_each all ns xs (c + 1) n

each_is : (script : List Item) (c n : ℕ) → tasks_from script c n ≡ of_each (numbered script) (names script) (numbered script) c n
each_is script c zero = refl
each_is script c (suc n) = ap (λ ts. tasks script c ∷ ts) (each_is script (c + 1) n)

cons_is : {A : Type 0} (o : Option A) (xs : List A) → cons_option o xs ≡ option_to_list o ++ xs
cons_is None xs = refl
cons_is (Some x) xs = refl

-- which operation of its client an item is makes no difference to what it asks for
op_same : (all : List Numbered) (ns : List (List ℕ)) (x : Numbered) (item : Item) → op_of all ns x item ≡ op_of all ns (numbered_as x.number x.link item) item
op_same all ns x (Open name shape) = refl
op_same all ns x (Call call) = refl
op_same all ns x (Send name bytes) = refl
op_same all ns x (Expire client i) = refl
op_same all ns x (Join client i) = refl
op_same all ns x (Hold name) = refl
op_same all ns x (Drop name) = refl
op_same all ns x (Fail name c) = refl
op_same all ns x (Slots n) = refl
op_same all ns x (Requests n) = refl
op_same all ns x (First n) = refl
op_same all ns x Client = refl
op_same all ns x Sched = refl
op_same all ns x (Tick s n) = refl
op_same all ns x (To s n) = refl

-- the client's own operation comes first
kept : (all : List Numbered) (ns : List (List ℕ)) (x : Numbered) (xs : List Numbered) (c : ℕ) → x.op.client ≡ c → of_one all ns (x ∷ xs) c ≡ task_at all ns x.number x.link x.op.item ++ of_one all ns xs c
kept all ns x xs c h =
    let own : (x.op.client == c) ≡ true = grind (arith, nat_tests, h) in
    ap (λ b. filter_map (task_of all ns) (cond b (x ∷ of_client c xs) (of_client c xs))) own ∙ cons_is (task_of all ns x) (of_one all ns xs c)
    ∙ ap (λ o. option_to_list (option_map (λ (op : Op). record { number = x.number; op = op }) o) ++ of_one all ns xs c) (op_same all ns x x.op.item)

-- another's is passed over
passed : (all : List Numbered) (ns : List (List ℕ)) (x : Numbered) (xs : List Numbered) (c : ℕ) → x.op.client ≢ c → of_one all ns (x ∷ xs) c ≡ of_one all ns xs c
passed all ns x xs c h =
    let other : (x.op.client == c) ≡ false = grind (arith, nat_tests, h) in
    ap (λ b. filter_map (task_of all ns) (cond b (x ∷ of_client c xs) (of_client c xs))) other

each_passed : (all : List Numbered) (ns : List (List ℕ)) (x : Numbered) (xs : List Numbered) (c n : ℕ) → x.op.client < c → of_each all ns (x ∷ xs) c n ≡ of_each all ns xs c n
each_passed all ns x xs c zero h = refl
each_passed all ns x xs c (suc n) h =
    ap (λ ts. ts ∷ of_each all ns (x ∷ xs) (c + 1) n) (passed all ns x xs c (λ e. omega (arith, h, e)))
    ∙ ap (λ more. of_one all ns xs c ∷ more) (each_passed all ns x xs (c + 1) n (omega (arith, h)))

-- ## One more item

-- the tasks and the operations, where the item begins a client, is an operation, or neither
by_sort : (all : List Numbered) (ns : List (List ℕ)) (c k number link : ℕ) (own : List Task) (item : Item) (items : List Item) (P : List (List Task) → List Operation → Type 0) →
    (is_client item ≡ true → P (own ∷ tasks_along all ns number link [] items) (operations_from (c + 1) 1 items)) →
    (is_client item ≡ false → P (tasks_along all ns (number + 1) (if is_open item then link + 1 else link) (own ++ task_at all ns number link item) items) ((record { client = c; number = k; item = item }) ∷ operations_from c (k + 1) items)) →
    (is_client item ≡ false → P (tasks_along all ns number link own items) (operations_from c k items)) →
    P (tasks_along all ns number link own (item ∷ items)) (operations_from c k (item ∷ items))
by_sort all ns c k number link own Client items P a b d = a refl
by_sort all ns c k number link own (Slots n) items P a b d = d refl
by_sort all ns c k number link own (Requests n) items P a b d = d refl
by_sort all ns c k number link own (First n) items P a b d = d refl
by_sort all ns c k number link own Sched items P a b d = d refl
by_sort all ns c k number link own (Tick s n) items P a b d = d refl
by_sort all ns c k number link own (To s n) items P a b d = d refl
by_sort all ns c k number link own other items P a b d = b refl

client_counted : (item : Item) (items : List Item) → is_client item ≡ true → clients (item ∷ items) ≡ suc (clients items)
client_counted item items e =
    let one : cond {A = ℕ} (is_client item) 1 0 ≡ 1 = ap {B = ℕ} (λ b. cond b 1 0) e in
    omega (arith, one, sum_by-cons (λ (x : Item). cond (is_client x) 1 0) item items)

other_counted : (item : Item) (items : List Item) → is_client item ≡ false → clients (item ∷ items) ≡ clients items
other_counted item items e =
    let one : cond {A = ℕ} (is_client item) 1 0 ≡ 0 = ap {B = ℕ} (λ b. cond b 1 0) e in
    omega (arith, one, sum_by-cons (λ (x : Item). cond (is_client x) 1 0) item items)

-- ## The tasks of a script

-- the operations of later clients have no task of this one
none_yet : (all : List Numbered) (ns : List (List ℕ)) (c d k number link : ℕ) (items : List Item) → c < d → of_one all ns (numbered_from number link (operations_from d k items)) c ≡ []
none_yet all ns c d k number link [] h = refl
none_yet all ns c d k number link (item ∷ items) h =
    let x : Numbered = record { number = number; link = link; op = record { client = d; number = k; item = item } } in
    let link_ = if is_open item then link + 1 else link in
    by_sort all ns d k number link [] item items (λ _ ops. of_one all ns (numbered_from number link ops) c ≡ [])
    (λ e. none_yet all ns c (d + 1) 1 number link items (omega (arith, h)))
    (λ e. passed all ns x (numbered_from (number + 1) link_ (operations_from d (k + 1) items)) c (λ f. omega (arith, h, f)) ∙ none_yet all ns c d (k + 1) (number + 1) link_ items h)
    (λ e. none_yet all ns c d k number link items h)

-- the tasks of a client and of so many later ones
abbrev from_here : List Numbered → List (List ℕ) → List Task → List Numbered → ℕ → ℕ → List (List Task)
from_here all ns own xs c n = (own ++ of_one all ns xs c) ∷ of_each all ns xs (c + 1) n

along_is : (all : List Numbered) (ns : List (List ℕ)) (c k number link : ℕ) (own : List Task) (items : List Item) → tasks_along all ns number link own items ≡ from_here all ns own (numbered_from number link (operations_from c k items)) c (clients items)
along_is all ns c k number link own [] = ap (λ ts. ts ∷ []) (sym (append-nil own))
along_is all ns c k number link own (item ∷ items) =
    by_sort all ns c k number link own item items (λ along ops. along ≡ from_here all ns own (numbered_from number link ops) c (clients (item ∷ items)))
    (λ e. let xs = numbered_from number link (operations_from (c + 1) 1 items) in
    ap (λ more. own ∷ more) (along_is all ns (c + 1) 1 number link [] items)
    ∙ ap (λ ts. ts ∷ of_each all ns xs (c + 1) (suc (clients items))) (sym (ap (λ ts. own ++ ts) (none_yet all ns c (c + 1) 1 number link items (omega arith)) ∙ append-nil own))
    ∙ ap (from_here all ns own xs c) (sym (client_counted item items e)))
    (λ e. let link_ = if is_open item then link + 1 else link in
    let x : Numbered = record { number = number; link = link; op = record { client = c; number = k; item = item } } in
    let xs = numbered_from (number + 1) link_ (operations_from c (k + 1) items) in
    along_is all ns c (k + 1) (number + 1) link_ (own ++ task_at all ns number link item) items
    ∙ ap (λ ts. ts ∷ of_each all ns xs (c + 1) (clients items)) (append_assoc own (task_at all ns number link item) (of_one all ns xs c) ∙ ap (λ ts. own ++ ts) (sym (kept all ns x xs c refl)))
    ∙ ap (λ more. (own ++ of_one all ns (x ∷ xs) c) ∷ more) (sym (each_passed all ns x xs (c + 1) (clients items) (omega arith)))
    ∙ ap (from_here all ns own (x ∷ xs) c) (sym (other_counted item items e)))
    (λ e. along_is all ns c k number link own items ∙ ap (from_here all ns own (numbered_from number link (operations_from c k items)) c) (sym (other_counted item items e)))

pub tasks_are : (script : List Item) → tasks_along (numbered script) (names script) 0 0 [] script ≡ all_tasks script
tasks_are script =
    let next : suc (clients script) ≡ clients script + 1 = omega arith in
    along_is (numbered script) (names script) 0 1 0 0 [] script ∙ sym (each_is script 0 (suc (clients script))) ∙ ap (tasks_from script 0) next

-- ## The operations of one sort of a script

numbers_by_sort : (sort : Item → Bool) (c k number : ℕ) (item : Item) (items : List Item) (P : List ℕ → List Operation → Type 0) →
    P (numbers_along sort number items) (operations_from (c + 1) 1 items) →
    P (if sort item then number ∷ numbers_along sort (number + 1) items else numbers_along sort (number + 1) items) ((record { client = c; number = k; item = item }) ∷ operations_from c (k + 1) items) →
    P (numbers_along sort number items) (operations_from c k items) →
    P (numbers_along sort number (item ∷ items)) (operations_from c k (item ∷ items))
numbers_by_sort sort c k number Client items P a b d = a
numbers_by_sort sort c k number (Slots n) items P a b d = d
numbers_by_sort sort c k number (Requests n) items P a b d = d
numbers_by_sort sort c k number (First n) items P a b d = d
numbers_by_sort sort c k number Sched items P a b d = d
numbers_by_sort sort c k number (Tick s n) items P a b d = d
numbers_by_sort sort c k number (To s n) items P a b d = d
numbers_by_sort sort c k number other items P a b d = b

abbrev number_if : (Item → Bool) → Numbered → Option ℕ
number_if sort n = if sort n.op.item then Some n.number else None

cons_if : (b : Bool) (number : ℕ) (ms ns : List ℕ) → ms ≡ ns → (if b then number ∷ ms else ms) ≡ cons_option (if b then Some number else None) ns
cons_if true number ms ns e = ap (λ l. number ∷ l) e
cons_if false number ms ns e = e

numbers_from : (sort : Item → Bool) (c k number link : ℕ) (items : List Item) → numbers_along sort number items ≡ filter_map (number_if sort) (numbered_from number link (operations_from c k items))
numbers_from sort c k number link [] = refl
numbers_from sort c k number link (item ∷ items) =
    let link_ = if is_open item then link + 1 else link in
    numbers_by_sort sort c k number item items (λ along ops. along ≡ filter_map (number_if sort) (numbered_from number link ops))
    (numbers_from sort (c + 1) 1 number link items)
    (cons_if (sort item) number (numbers_along sort (number + 1) items) (filter_map (number_if sort) (numbered_from (number + 1) link_ (operations_from c (k + 1) items))) (numbers_from sort c (k + 1) (number + 1) link_ items))
    (numbers_from sort c k number link items)

pub opens_are : (script : List Item) → numbers_along is_open 0 script ≡ opens script
opens_are script = numbers_from is_open 0 1 0 0 script

pub calls_are : (script : List Item) → numbers_along is_call 0 script ≡ calls script
calls_are script = numbers_from is_call 0 1 0 0 script

-- ## How many operations follow

abbrev pub left : List Item → ℕ
left [] = 0
left (item ∷ items) = if is_operation item then left items + 1 else left items

left_by_sort : (c k : ℕ) (item : Item) (items : List Item) (P : ℕ → List Operation → Type 0) →
    P (left items) (operations_from (c + 1) 1 items) →
    P (left items + 1) ((record { client = c; number = k; item = item }) ∷ operations_from c (k + 1) items) →
    P (left items) (operations_from c k items) →
    P (left (item ∷ items)) (operations_from c k (item ∷ items))
left_by_sort c k Client items P a b d = a
left_by_sort c k (Slots n) items P a b d = d
left_by_sort c k (Requests n) items P a b d = d
left_by_sort c k (First n) items P a b d = d
left_by_sort c k Sched items P a b d = d
left_by_sort c k (Tick s n) items P a b d = d
left_by_sort c k (To s n) items P a b d = d
left_by_sort c k other items P a b d = b

pub left_is : (c k : ℕ) (items : List Item) → left items ≡ length (operations_from c k items)
left_is c k [] = refl
left_is c k (item ∷ items) =
    let own : left items ≡ length (operations_from c (k + 1) items) = left_is c (k + 1) items in
    left_by_sort c k item items (λ n ops. n ≡ length ops) (left_is (c + 1) 1 items) (omega (arith, own)) (left_is c k items)

-- ## One more line of a script

-- the tasks so far and those along the items that are left
pub record Sofar (whole : List (List Task)) (done : List (List Task)) (all : List Numbered) (ns : List (List ℕ)) (number link : ℕ) (own : List Task) (items : List Item) : Type 0 where
  pub room : number + left items ≤ 4096
  pub few : link ≤ number
  pub short : AllByRecursion IsShort items
  pub tasks : done ++ tasks_along all ns number link own items ≡ whole

pub to_items : {whole done : List (List Task)} {all : List Numbered} {ns : List (List ℕ)} {number link : ℕ} {own : List Task} (items more : List Item) → items ≡ more → Sofar whole done all ns number link own items → Sofar whole done all ns number link own more
to_items {whole} {done} {all} {ns} {number} {link} {own} items more e h = subst (Sofar whole done all ns number link own) e h

-- what follows where the item begins a client, is an operation, or neither
abbrev Sorted : List Numbered → List (List ℕ) → ℕ → ℕ → List Task → Item → List Item → (ℕ → List (List Task) → Type 0) → Type 0
Sorted all ns number link own item items P =
    (is_client item ≡ true → P (left items) (own ∷ tasks_along all ns number link [] items))
    × (is_client item ≡ false → is_operation item ≡ true → P (left items + 1) (tasks_along all ns (number + 1) (if is_open item then link + 1 else link) (own ++ task_at all ns number link item) items))
    × (is_client item ≡ false → is_operation item ≡ false → P (left items) (tasks_along all ns number link own items))

along_sort : (all : List Numbered) (ns : List (List ℕ)) (number link : ℕ) (own : List Task) (item : Item) (items : List Item) (P : ℕ → List (List Task) → Type 0) → P (left (item ∷ items)) (tasks_along all ns number link own (item ∷ items)) → Sorted all ns number link own item items P
along_sort all ns number link own Client items P h = (λ e. h, (λ e f. absurd (cc)), (λ e f. absurd (cc)))
along_sort all ns number link own (Slots n) items P h = (λ e. absurd (cc), (λ e f. absurd (cc)), (λ e f. h))
along_sort all ns number link own (Requests n) items P h = (λ e. absurd (cc), (λ e f. absurd (cc)), (λ e f. h))
along_sort all ns number link own (First n) items P h = (λ e. absurd (cc), (λ e f. absurd (cc)), (λ e f. h))
along_sort all ns number link own Sched items P h = (λ e. absurd (cc), (λ e f. absurd (cc)), (λ e f. h))
along_sort all ns number link own (Tick s n) items P h = (λ e. absurd (cc), (λ e f. absurd (cc)), (λ e f. h))
along_sort all ns number link own (To s n) items P h = (λ e. absurd (cc), (λ e f. absurd (cc)), (λ e f. h))
along_sort all ns number link own other items P h = (λ e. absurd (cc), (λ e f. h), (λ e f. absurd (cc)))

module _ (whole done : List (List Task)) (all : List Numbered) (ns : List (List ℕ)) (number link : ℕ) (own : List Task) (item : Item) (items : List Item) (h : Sofar whole done all ns number link own (item ∷ items)) where
  abbrev IsSofar : ℕ → List (List Task) → Type 0
  IsSofar n along = (number + n ≤ 4096) × (done ++ along ≡ whole)

  sorted : Sorted all ns number link own item items IsSofar
  sorted = along_sort all ns number link own item items IsSofar (h.room, h.tasks)

  -- the next client begins
  pub sofar_client : is_client item ≡ true → Sofar whole (done ++ own ∷ []) all ns number link [] items
  sofar_client e = let w = sorted.0 e in record { room = w.0; few = h.few; short = h.short.1; tasks = append_assoc done (own ∷ []) (tasks_along all ns number link [] items) ∙ w.1 }

  pub sofar_operation : is_client item ≡ false → is_operation item ≡ true → Sofar whole done all ns (number + 1) (if is_open item then link + 1 else link) (own ++ task_at all ns number link item) items
  sofar_operation e f = let w = sorted.1 e f in record { room = omega (arith, w.0); few = few_links (is_open item) link number h.few; short = h.short.1; tasks = w.1 }
    where
      few_links : (b : Bool) (link number : ℕ) → link ≤ number → (if b then link + 1 else link) ≤ number + 1
      few_links true link number h = omega (arith, h)
      few_links false link number h = omega (arith, h)

  pub sofar_other : is_client item ≡ false → is_operation item ≡ false → Sofar whole done all ns number link own items
  sofar_other e f = let w = sorted.2 e f in record { room = w.0; few = h.few; short = h.short.1; tasks = w.1 }

-- the same by other names
pub sofar_same : {whole done done_ : List (List Task)} {all : List Numbered} {ns : List (List ℕ)} {number number_ link link_ : ℕ} {own own_ : List Task} {items : List Item} → done_ ≡ done → number_ ≡ number → link_ ≡ link → own_ ≡ own →
    Sofar whole done all ns number link own items → Sofar whole done_ all ns number_ link_ own_ items
sofar_same {whole} {done} {done_} {all} {ns} {number} {number_} {link} {link_} {own} {own_} {items} e f g o h = record {
  room = omega (arith, h.room, f);
  few = omega (arith, h.few, f, g);
  short = h.short;
  tasks = ap (λ d. d ++ tasks_along all ns number_ link_ own_ items) e
      ∙ ap (λ n. done ++ tasks_along all ns n link_ own_ items) f
      ∙ ap (λ k. done ++ tasks_along all ns number k own_ items) g
      ∙ ap (λ ts. done ++ tasks_along all ns number link ts items) o
      ∙ h.tasks;
}
