-- Messages of different labels are no longer together than all attempts of a script.
use Rattle.std.proofs.Common.{◌≡◌, ◌≢◌, ℕ, zero, suc, ◌+◌, ◌-◌, ◌*◌, ◌<◌, ◌≤◌, ◌==◌, true, false, cond, nat_lt, List, [], ◌∷◌, length, flat_map, slice_get, Some, length-append, refl, ap, sym, ◌∙◌, subst, arith}
use Rattle.std.proofs.lemmas.Bool.Decides.{nat_tests}
use Rattle.std.proofs.lemmas.List.Sums.{sum_by-cons}
use Rattle.std.specs.Prelude.{sum_by}
use Rattle.std.specs.List.{AllByRecursion}
use Rattle.brpc_model.specs.Items.{Item, attempts_of}
use Rattle.brpc_model.specs.Operations.{Operation, operations_from}
use Rattle.brpc_model.specs.Order.{EachBefore}
use Rattle.seat_programs.specs.ExplainedCalls.{Accepted, label, bytes_of}
use Rattle.served_calls.specs.served_runs.specs.Below.script_facts.proofs.LabelCounts.{at_number, own_number, later_number, number_there, Differ}
use Rattle.served_calls.specs.served_runs.specs.Below.script_facts.proofs.FilteredLists.{Has, has_first, has_later, all_at}
use Rattle.served_calls.specs.served_runs.specs.Below.script_facts.proofs.OperationNumbering.{behind_item}
use Rattle.served_sizes.specs.MessageBodySizes.{carried, all_carried}

-- ## Sums below a number

abbrev below : (ℕ → ℕ) → ℕ → ℕ
below w zero = 0
below w (suc n) = below w n + w n

abbrev without : (ℕ → ℕ) → ℕ → ℕ → ℕ
without w j k = cond (k == j) 0 (w k)

without_other : (w : ℕ → ℕ) (j k : ℕ) → k ≢ j → without w j k ≡ w k
without_other w j k h = let off : (k == j) ≡ false = grind (arith, nat_tests) in ap {B = ℕ} (λ b. cond b 0 (w k)) off

without_same : (w : ℕ → ℕ) (j k : ℕ) → k ≡ j → without w j k ≡ 0
without_same w j k h = let on : (k == j) ≡ true = grind (arith, nat_tests) in ap {B = ℕ} (λ b. cond b 0 (w k)) on

below_same : (v w : ℕ → ℕ) (n : ℕ) → ((j : ℕ) → j < n → v j ≡ w j) → below v n ≡ below w n
below_same v w zero h = refl
below_same v w (suc n) h = sums (below v n) (below w n) (v n) (w n) (below_same v w n (λ j low. h j (omega (arith, low)))) (h n (omega arith))
  where
    sums : (a b c d : ℕ) → a ≡ b → c ≡ d → a + c ≡ b + d
    sums a b c d e f = omega (arith, e, f)

one_less : (w : ℕ → ℕ) (j n : ℕ) → j < n → below w n ≡ below (without w j) n + w j
one_less w j zero h = absurd (omega (arith, h))
one_less w j (suc n) h = elim (n == j) as (λ x. (n == j) ≡ x → below w (suc n) ≡ below (without w j) (suc n) + w j) [
  | true ↦ λ t. let same : n ≡ j = grind (arith, nat_tests) in
      gone (below w n) (below (without w j) n) (w n) (without w j n) (w j) (below_same (without w j) w n (λ i low. without_other w j i (λ e. omega (arith, e, low, same)))) (without_same w j n same) (ap w same)
  | false ↦ λ t. let other : n ≢ j = grind (arith, nat_tests) in
      stays (below w n) (below (without w j) n) (w n) (without w j n) (w j) (one_less w j n (omega (arith, h, other))) (without_other w j n other)
] refl
  where
    gone : (a b c d e : ℕ) → b ≡ a → d ≡ 0 → c ≡ e → a + c ≡ (b + d) + e
    gone a b c d e p q r = omega (arith, p, q, r)

    stays : (a b c d e : ℕ) → a ≡ b + e → d ≡ c → a + c ≡ (b + d) + e
    stays a b c d e p q = omega (arith, p, q)

-- each label has room for its message, so their sum has room for all
pub messages_few : (w : ℕ → ℕ) (n : ℕ) (xs : List Accepted) → EachBefore Differ xs → ((a : Accepted) → Has xs a → (label a < n) × (length a.bytes ≤ w (label a))) → length (flat_map bytes_of xs) ≤ below w n
messages_few w n [] apart h = omega arith
messages_few w n (x ∷ xs) apart h =
    let here = h x (has_first x xs) in
    let rest = messages_few (without w (label x)) n xs apart.1 (λ a g. let there = h a (has_later x xs a g) in
    (there.0, subst (λ m. length a.bytes ≤ m) (sym (without_other w (label x) (label a) (λ e. all_at (Differ x) xs a apart.0 g (sym e)))) there.1)) in
    sums (length (flat_map bytes_of (x ∷ xs))) (length x.bytes) (length (flat_map bytes_of xs)) (below w n) (below (without w (label x)) n) (w (label x)) (length-append x.bytes (flat_map bytes_of xs)) here.1 rest (one_less w (label x) n here.0)
  where
    sums : (a b c d e f : ℕ) → a ≡ b + c → b ≤ f → c ≤ e → d ≡ e + f → a ≤ d
    sums a b c d e f p q r s = omega (arith, p, q, r, s)

-- ## The weights of a script's attempts

-- so much for each attempt of an operation
abbrev weighs : Operation → ℕ → ℕ
weighs op n = cond (nat_lt n (attempts_of op.item)) (240 + carried op.item) 0

abbrev pub weight_of : List Operation → ℕ → ℕ
weight_of = at_number weighs 0

pub weight_at : (ops : List Operation) (o n : ℕ) (q : Operation) → slice_get ops o ≡ Some q → n < attempts_of q.item → n < 8 → weight_of ops (8 * o + n) ≡ 240 + carried q.item
weight_at ops o n q e h low = let on : nat_lt n (attempts_of q.item) ≡ true = grind (arith, nat_tests) in number_there weighs 0 ops o n q e low ∙ ap {B = ℕ} (λ b. cond b (240 + carried q.item) 0) on

-- ## Their sum

abbrev times : ℕ → ℕ → ℕ
times zero v = 0
times (suc n) v = times n v + v

times_parts : (n c : ℕ) → times n (240 + c) ≡ 240 * n + times n c
times_parts zero c = omega arith
times_parts (suc n) c = let rest = times_parts n c in omega (arith, rest)

times_more : (n k c : ℕ) → times n c ≤ times (n + k) c
times_more n zero c = let e : n + 0 ≡ n = omega arith in let f : times (n + 0) c ≡ times n c = ap (λ m. times m c) e in omega (arith, f)
times_more n (suc k) c = let e : n + suc k ≡ suc (n + k) = omega arith in let f : times (n + suc k) c ≡ times (n + k) c + c = ap (λ m. times m c) e in let rest = times_more n k c in omega (arith, f, rest)

times_few : (n c : ℕ) → n ≤ 7 → times n (240 + c) ≤ 240 * n + 7 * c
times_few n c h = let e : n + (7 - n) ≡ 7 = omega (arith, h) in let f : times (n + (7 - n)) c ≡ times 7 c = ap (λ m. times m c) e in let g : times 7 c ≡ 7 * c = omega arith in let more = times_more n (7 - n) c in let parts = times_parts n c in omega (arith, f, g, more, parts)

below_split : (b : ℕ → ℕ) (k m : ℕ) → below b (k + m) ≡ below b k + below (λ j. b (k + j)) m
below_split b k zero = let e : k + 0 ≡ k = omega arith in let f : below b (k + 0) ≡ below b k = ap (below b) e in omega (arith, f)
below_split b k (suc m) = sums (below b (k + suc m)) (below b (k + m)) (b (k + m)) (below b k) (below (λ j. b (k + j)) m) (let e : k + suc m ≡ suc (k + m) = omega arith in ap (below b) e) (below_split b k m)
  where
    sums : (a c d e f : ℕ) → a ≡ c + d → c ≡ e + f → a ≡ e + (f + d)
    sums a c d e f p q = omega (arith, p, q)

firsts : (a v n : ℕ) → n ≤ a → below (λ j. cond (nat_lt j a) v 0) n ≡ times n v
firsts a v zero h = refl
firsts a v (suc n) h =
    let on : nat_lt n a ≡ true = grind (arith, nat_tests) in
    let here : cond {A = ℕ} (nat_lt n a) v 0 ≡ v = ap {B = ℕ} (λ x. cond x v 0) on in
    omega (arith, here, firsts a v n (omega (arith, h)))

first_of : (a v n : ℕ) → a ≤ n → below (λ j. cond (nat_lt j a) v 0) n ≡ times a v
first_of a v zero h = let z : 0 ≡ a = omega (arith, h) in ap (λ x. times x v) z
first_of a v (suc n) h = elim (nat_lt n a) as (λ b. nat_lt n a ≡ b → below (λ j. cond (nat_lt j a) v 0) (suc n) ≡ times a v) [
  | true ↦ λ t. let low : n < a = grind (arith, nat_tests) in let all : suc n ≡ a = omega (arith, h, low) in firsts a v (suc n) (omega (arith, low)) ∙ ap (λ x. times x v) all
  | false ↦ λ t.
      let high : a ≤ n = grind (arith, nat_tests) in
      let here : cond {A = ℕ} (nat_lt n a) v 0 ≡ 0 = ap {B = ℕ} (λ x. cond x v 0) t in
      omega (arith, here, first_of a v n high)
] refl

abbrev attempts_in : List Operation → ℕ
attempts_in [] = 0
attempts_in (op ∷ ops) = attempts_of op.item + attempts_in ops

abbrev carried_by : List Operation → ℕ
carried_by [] = 0
carried_by (op ∷ ops) = carried op.item + carried_by ops

all_weights : (ops : List Operation) → AllByRecursion (λ (op : Operation). attempts_of op.item ≤ 7) ops → below (weight_of ops) (8 * length ops) ≤ 240 * attempts_in ops + 7 * carried_by ops
all_weights [] small = omega arith
all_weights (op ∷ ops) small = sums (below (weight_of (op ∷ ops)) (8 * suc (length ops))) (below (weight_of (op ∷ ops)) 8) (below (λ j. weight_of (op ∷ ops) (8 + j)) (8 * length ops)) (below (weight_of ops) (8 * length ops)) (times (attempts_of op.item) (240 + carried op.item))
    (attempts_of op.item) (carried op.item) (attempts_in ops) (carried_by ops)
    (let e : 8 * suc (length ops) ≡ 8 + 8 * length ops = omega arith in ap (below (weight_of (op ∷ ops))) e ∙ below_split (weight_of (op ∷ ops)) 8 (8 * length ops)) own later (times_few (attempts_of op.item) (carried op.item) small.0) (all_weights ops small.1)
  where
    own : below (weight_of (op ∷ ops)) 8 ≡ times (attempts_of op.item) (240 + carried op.item)
    own = below_same (weight_of (op ∷ ops)) (weighs op) 8 (own_number weighs 0 op ops) ∙ first_of (attempts_of op.item) (240 + carried op.item) 8 (let few = small.0 in omega (arith, few))

    later : below (λ j. weight_of (op ∷ ops) (8 + j)) (8 * length ops) ≡ below (weight_of ops) (8 * length ops)
    later = below_same (λ j. weight_of (op ∷ ops) (8 + j)) (weight_of ops) (8 * length ops) (λ j low. later_number weighs 0 op ops j)

    sums : (all own later rest t a c m n : ℕ) → all ≡ own + later → own ≡ t → later ≡ rest → t ≤ 240 * a + 7 * c → rest ≤ 240 * m + 7 * n → all ≤ 240 * (a + m) + 7 * (c + n)
    sums all own later rest t a c m n p q r s u = omega (arith, p, q, r, s, u)

attempts_counted : (client number : ℕ) (items : List Item) → attempts_in (operations_from client number items) ≤ sum_by attempts_of items
attempts_counted client number [] = omega arith
attempts_counted client number (item ∷ items) =
    let next = attempts_counted (client + 1) 1 items in
    let own = attempts_counted client (number + 1) items in
    let same = attempts_counted client number items in
    let sum = sum_by-cons attempts_of item items in
    behind_item client number item items (λ ops. attempts_in ops ≤ sum_by attempts_of (item ∷ items)) (λ c. omega (arith, next, sum)) (λ c o. omega (arith, own, sum)) (λ c o. omega (arith, same, sum))

carried_counted : (client number : ℕ) (items : List Item) → carried_by (operations_from client number items) ≤ all_carried items
carried_counted client number [] = omega arith
carried_counted client number (item ∷ items) =
    let next = carried_counted (client + 1) 1 items in
    let own = carried_counted client (number + 1) items in
    let same = carried_counted client number items in
    behind_item client number item items (λ ops. carried_by ops ≤ carried item + all_carried items) (λ c. omega (arith, next)) (λ c o. omega (arith, own)) (λ c o. omega (arith, same))

-- of all labels of a script, none of whose operations has more than seven attempts
pub weights_few : (script : List Item) → AllByRecursion (λ (op : Operation). attempts_of op.item ≤ 7) (operations_from 0 1 script) → below (weight_of (operations_from 0 1 script)) (8 * length (operations_from 0 1 script)) ≤ 240 * sum_by attempts_of script + 7 * all_carried script
weights_few script small = let all = all_weights (operations_from 0 1 script) small in let a = attempts_counted 0 1 script in let c = carried_counted 0 1 script in
    sums (below (weight_of (operations_from 0 1 script)) (8 * length (operations_from 0 1 script))) (attempts_in (operations_from 0 1 script)) (carried_by (operations_from 0 1 script)) (sum_by attempts_of script) (all_carried script) all a c
  where
    sums : (x a c m n : ℕ) → x ≤ 240 * a + 7 * c → a ≤ m → c ≤ n → x ≤ 240 * m + 7 * n
    sums x a c m n p q r = omega (arith, p, q, r)

-- so that messages of different labels are no longer than this
pub all_few : (script : List Item) → AllByRecursion (λ (op : Operation). attempts_of op.item ≤ 7) (operations_from 0 1 script) → (xs : List Accepted) → EachBefore Differ xs
    → ((a : Accepted) → Has xs a → (label a < 8 * length (operations_from 0 1 script)) × (length a.bytes ≤ weight_of (operations_from 0 1 script) (label a))) → length (flat_map bytes_of xs) ≤ 240 * sum_by attempts_of script + 7 * all_carried script
all_few script small xs apart h = up (length (flat_map bytes_of xs)) (below (weight_of (operations_from 0 1 script)) (8 * length (operations_from 0 1 script))) (240 * sum_by attempts_of script + 7 * all_carried script) (messages_few (weight_of (operations_from 0 1 script)) (8 * length (operations_from 0 1 script)) xs apart h) (weights_few script small)
  where
    up : (a b c : ℕ) → a ≤ b → b ≤ c → a ≤ c
    up a b c p q = omega (arith, p, q)
