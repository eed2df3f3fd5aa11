-- The sizes of a script that was read, and the numbers in its lines.
use Rattle.std.proofs.Common.{◌≡◌, ℕ, suc, ◌≤◌, ◌+◌, ◌%◌, Bool, true, false, ◌&&◌, ◌||◌, nat_le, nat_lt, cond, List, [], ◌∷◌, ◌++◌, length, filter_map, count_by, slice_get, unwrap_or, Option, Some, None, Ok, inl, inr, refl, ap, subst, arith}
use Rattle.std.proofs.lemmas.Bool.Decides.{nat_tests}
use Rattle.std.proofs.lemmas.List.Sums.{sum_by-append, sum_by-cons}
use Rattle.std.specs.List.{AllByRecursion, cons_option}
use Rattle.brpc_model.specs.Items.{Item, Slots, Requests, First, Client, is_client, is_open, is_operation, is_turn, opened_name}
use Rattle.brpc_model.specs.Operations.{operations_from, clients, link_names, size, slots_in, requests_in, first_in}
use Rattle.brpc_model.specs.LinePlaceFaults.{names}
use Rattle.brpc_model.specs.Script.{script_of}
use Rattle.seat_programs.specs.sock_model.specs.LawfulSockets.{PlanFits}
use Rattle.seat_programs.specs.Tasks.{plan_of}
use Rattle.seat_programs.specs.ScriptSetupToEnding.{all_tasks}
use Rattle.brpc_model.specs.Limits.{KeepsLimits}
use Rattle.script_facts.proofs.FilteredLists.{or_parts, all_at, filter_map_has}
use Rattle.script_facts.proofs.OperationNumbering.{behind_item, OpensOrNot, opens_or_not}
use Rattle.script_facts.proofs.TaskLemmas.{tasks_length}
use Rattle.script_facts.proofs.ReadScriptFacts.{InRange, IsPlaced, by_lines}

-- ## How many of each sort

pub record IsCounted (script : List Item) : Type 0 where
  pub clients : count_by is_client script ≤ 31
  pub opens : count_by is_open script ≤ 31
  pub operations : count_by is_operation script ≤ 4096
  pub names : length (names script) ≤ 64
  pub in_range : AllByRecursion InRange script

one_few : (b : Bool) (m n : ℕ) → (b && nat_le m n) ≡ false → n ≤ m → n + cond b 1 0 ≤ m
one_few true m n e h = grind (arith, nat_tests, e)
one_few false m n e h = omega (arith, h)

pub all_more : {A : Type 0} (P : A → Type 0) (xs : List A) (x : A) → AllByRecursion P xs → P x → AllByRecursion P (xs ++ x ∷ [])
all_more P [] x h g = (g, tt)
all_more P (y ∷ ys) x h g = (h.0, all_more P ys x h.1 g)

few_more : (test : Item → Bool) (m : ℕ) (before : List Item) (item : Item) → (test item && nat_le m (count_by test before)) ≡ false → count_by test before ≤ m → count_by test (before ++ item ∷ []) ≤ m
few_more test m before item e h = omega (arith, sum_by-append (λ i. cond (test i) 1 0) before (item ∷ []), one_few (test item) m (count_by test before) e h)

counted_more : (before : List Item) (item : Item) → IsCounted before → IsPlaced before item → IsCounted (before ++ item ∷ [])
counted_more before item h g =
    let clients_ = is_client item && nat_le 31 (count_by is_client before) in
    let links = is_open item && nat_le 31 (count_by is_open before) in
    let many = is_operation item && nat_le 4096 (count_by is_operation before) in
    let turns = is_turn item && nat_le 4096 (count_by is_turn before) in
    let named = nat_lt 64 (length (names (before ++ item ∷ []))) in
    let whole = or_parts (clients_ || links || many || turns) named g.few in
    let ops = or_parts (clients_ || links || many) turns whole.0 in
    let both = or_parts (clients_ || links) many ops.0 in
    let two = or_parts clients_ links both.0 in
    record {
      clients = few_more is_client 31 before item two.0 h.clients;
      opens = few_more is_open 31 before item two.1 h.opens;
      operations = few_more is_operation 4096 before item both.1 h.operations;
      names = grind (arith, nat_tests, whole.1);
      in_range = all_more InRange before item h.in_range g.in_range;
    }

pub is_counted : (bytes : List ℕ) (script : List Item) → script_of bytes ≡ Ok script → IsCounted script
is_counted bytes script e = by_lines IsCounted (record { clients = omega arith; opens = omega arith; operations = omega arith; names = omega arith; in_range = tt }) counted_more bytes script e

-- ## Sizes

unwrap_case : (o : Option ℕ) (default : ℕ) (Q : ℕ → Type 0) → ((n : ℕ) → o ≡ Some n → Q n) → Q default → Q (unwrap_or o default)
unwrap_case None default Q h d = d
unwrap_case (Some n) default Q h d = h n refl

size_has : (asked : Item → Option ℕ) (default : ℕ) (script : List Item) (Q : ℕ → Type 0) → AllByRecursion InRange script → ((item : Item) (n : ℕ) → InRange item → asked item ≡ Some n → Q n) → Q default → Q (size asked default script)
size_has asked default script Q range h d = unwrap_case (slice_get (filter_map asked script) 0) default Q
    (λ n e. let w = filter_map_has asked script n (0, e) in h w.0 n (all_at InRange script w.0 range w.1) w.2) d

slots_range : (item : Item) (n : ℕ) → InRange item → slots_in item ≡ Some n → (1 ≤ n) × (n ≤ 31)
slots_range (Slots m) n h e = let same : m ≡ n = cc in (omega (arith, h.0, same), omega (arith, h.1, same))
slots_range other n h e = absurd (cc)

requests_range : (item : Item) (n : ℕ) → InRange item → requests_in item ≡ Some n → (1 ≤ n) × (n ≤ 4096)
requests_range (Requests m) n h e = let same : m ≡ n = cc in (omega (arith, h.0, same), omega (arith, h.1, same))
requests_range other n h e = absurd (cc)

first_range : (item : Item) (n : ℕ) → InRange item → first_in item ≡ Some n → (n ≤ 4294967292) × (n % 2 ≡ 0)
first_range (First m) n h e = let same : m ≡ n = cc in (omega (arith, h.0, same), (let P : ℕ → Type 0 = λ x. x % 2 ≡ 0 in subst P same h.1))
first_range other n h e = absurd (cc)

-- ## Lists of a script

count_step : (test : Item → Bool) (item : Item) (items : List Item) (n : ℕ) → cond {A = ℕ} (test item) 1 0 ≡ n → count_by test (item ∷ items) ≡ n + count_by test items
count_step test item items n e = omega (arith, e, sum_by-cons (λ i. cond (test i) 1 0) item items)

opened_step : (item : Item) (items : List Item) → OpensOrNot item → length (filter_map opened_name items) ≡ count_by is_open items → length (filter_map opened_name (item ∷ items)) ≡ count_by is_open (item ∷ items)
opened_step item items (inl w) again =
    let longer : length (filter_map opened_name (item ∷ items)) ≡ suc (length (filter_map opened_name items)) = ap (λ o. length (cons_option o (filter_map opened_name items))) w.2 in
    omega (arith, longer, again, count_step is_open item items 1 (ap {B = ℕ} (λ b. cond b 1 0) w.0))
opened_step item items (inr w) again =
    let same : length (filter_map opened_name (item ∷ items)) ≡ length (filter_map opened_name items) = ap (λ o. length (cons_option o (filter_map opened_name items))) w.1 in
    omega (arith, same, again, count_step is_open item items 0 (ap {B = ℕ} (λ b. cond b 1 0) w.0))

pub link_count : (script : List Item) → length (link_names script) ≡ count_by is_open script
link_count [] = refl
link_count (item ∷ items) = opened_step item items (opens_or_not item) (link_count items)

no_operation : (item : Item) → is_client item ≡ true → is_operation item ≡ false
no_operation Client e = refl
no_operation other e = absurd (cc)

pub operation_count : (client number : ℕ) (items : List Item) → length (operations_from client number items) ≡ count_by is_operation items
operation_count client number [] = refl
operation_count client number (item ∷ items) =
    let next : length (operations_from (client + 1) 1 items) ≡ count_by is_operation items = operation_count (client + 1) 1 items in
    let own : length (operations_from client (number + 1) items) ≡ count_by is_operation items = operation_count client (number + 1) items in
    let same : length (operations_from client number items) ≡ count_by is_operation items = operation_count client number items in
    behind_item client number item items (λ ops. length ops ≡ count_by is_operation (item ∷ items))
    (λ c. omega (arith, next, count_step is_operation item items 0 (ap {B = ℕ} (λ b. cond b 1 0) (no_operation item c))))
    (λ c o. omega (arith, own, count_step is_operation item items 1 (ap {B = ℕ} (λ b. cond b 1 0) o)))
    (λ c o. omega (arith, same, count_step is_operation item items 0 (ap {B = ℕ} (λ b. cond b 1 0) o)))

-- ## The limits

-- each script that was read keeps them
pub keeps_limits : (bytes : List ℕ) (script : List Item) → script_of bytes ≡ Ok script → KeepsLimits script
keeps_limits bytes script e =
    let w = is_counted bytes script e in
    let of_slots = size_has slots_in 31 script (λ n. (1 ≤ n) × (n ≤ 31)) w.in_range slots_range (omega arith, omega arith) in
    let of_requests = size_has requests_in 4096 script (λ n. (1 ≤ n) × (n ≤ 4096)) w.in_range requests_range (omega arith, omega arith) in
    let of_first = size_has first_in 0 script (λ n. (n ≤ 4294967292) × (n % 2 ≡ 0)) w.in_range first_range (omega arith, refl) in
    record {
      some_slots = of_slots.0;
      slots = of_slots.1;
      links = omega (arith, w.opens, link_count script);
      names = w.names;
      operations = omega (arith, w.operations, operation_count 0 1 script);
      some_requests = of_requests.0;
      requests = of_requests.1;
      first = of_first.0;
      even = of_first.1;
      clients = w.clients;
    }

-- so its table is one that the sockets' law is kept over
pub plan_fits : (script : List Item) → KeepsLimits script → PlanFits (plan_of script)
plan_fits script limits = record { narrow = omega (arith, limits.requests); even = limits.even }

-- and it has few seats
pub few_seats : (script : List Item) → KeepsLimits script → length (all_tasks script) ≤ 32
few_seats script limits = omega (arith, limits.clients, tasks_length script 0 (clients script + 1))
