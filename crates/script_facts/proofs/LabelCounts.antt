-- How many attempts a script has: each label of a send or of an attempt of a call is one.
use Rattle.std.proofs.Common.{◌≡◌, ◌≢◌, ℕ, zero, suc, ◌+◌, ◌-◌, ◌*◌, ◌<◌, ◌≤◌, Bool, true, false, cond, nat_lt, List, [], ◌∷◌, length, sum_by, slice_get, Some, refl, ap, sym, ◌∙◌, arith}
use Rattle.std.proofs.lemmas.Bool.Decides.{nat_tests}
use Rattle.std.proofs.lemmas.List.Sums.{sum_by-cons}
use Rattle.std.specs.List.{AllByRecursion}
use Rattle.brpc_model.specs.Items.{Item, attempts_of}
use Rattle.brpc_model.specs.Operations.{Operation, operations_from, operations, attempts}
use Rattle.brpc_model.specs.Order.{EachBefore}
use Rattle.seat_programs.specs.ExplainedCalls.{Accepted, label}
use Rattle.script_facts.proofs.FilteredLists.{Has, some_is, all_from}
use Rattle.script_facts.proofs.CountingPlaces.{tally, HasPlace, places}
use Rattle.script_facts.proofs.OperationNumbering.{behind_item}

-- ## Tallies

tally_split : (b : ℕ → Bool) (k m : ℕ) → tally b (k + m) ≡ tally b k + tally (λ j. b (k + j)) m
tally_split b k zero = let e : k + 0 ≡ k = omega arith in let f : tally b (k + 0) ≡ tally b k = ap (tally b) e in omega (arith, f)
tally_split b k (suc m) =
    let e : k + suc m ≡ suc (k + m) = omega arith in
    let f : tally b (k + suc m) ≡ tally b (suc (k + m)) = ap (tally b) e in
    omega (arith, f, tally_split b k m)

tally_same : (b c : ℕ → Bool) (n : ℕ) → ((j : ℕ) → j < n → b j ≡ c j) → tally b n ≡ tally c n
tally_same b c zero h = refl
tally_same b c (suc n) h =
    let here : cond {A = ℕ} (b n) 1 0 ≡ cond (c n) 1 0 = ap {B = ℕ} (λ x. cond x 1 0) (h n (omega arith)) in
    omega (arith, here, tally_same b c n (λ j low. h j (omega (arith, low))))

below : (a n : ℕ) → n ≤ a → tally (λ j. nat_lt j a) n ≡ n
below a zero h = refl
below a (suc n) h =
    let on : nat_lt n a ≡ true = grind (arith, nat_tests) in
    let here : cond {A = ℕ} (nat_lt n a) 1 0 ≡ 1 = ap {B = ℕ} (λ x. cond x 1 0) on in
    omega (arith, here, below a n (omega (arith, h)))

-- the first a of n
first_of : (a n : ℕ) → a ≤ n → tally (λ j. nat_lt j a) n ≡ a
first_of a zero h = omega (arith, h)
first_of a (suc n) h = elim (nat_lt n a) as (λ b. nat_lt n a ≡ b → tally (λ j. nat_lt j a) (suc n) ≡ a) [
  | true ↦ λ t. let low : n < a = grind (arith, nat_tests) in let all : tally (λ j. nat_lt j a) (suc n) ≡ suc n = below a (suc n) (omega (arith, low)) in omega (arith, all, h, low)
  | false ↦ λ t.
      let high : a ≤ n = grind (arith, nat_tests) in
      let here : cond {A = ℕ} (nat_lt n a) 1 0 ≡ 0 = ap {B = ℕ} (λ x. cond x 1 0) t in
      omega (arith, here, first_of a n high)
] refl

-- ## Attempts

-- each operation has eight numbers: what is at a number, by its operation and how many of that operation's come before it
abbrev pub at_number : {A : Type 0} → (Operation → ℕ → A) → A → List Operation → ℕ → A
at_number f none_ [] j = none_
at_number f none_ (op ∷ ops) j = cond (nat_lt j 8) (f op j) (at_number f none_ ops (j - 8))

module _ {A : Type 0} (f : Operation → ℕ → A) (none_ : A) where
  pub own_number : (op : Operation) (ops : List Operation) (j : ℕ) → j < 8 → at_number f none_ (op ∷ ops) j ≡ f op j
  own_number op ops j low = let on : nat_lt j 8 ≡ true = grind (arith, nat_tests) in ap {B = A} (λ b. cond b (f op j) (at_number f none_ ops (j - 8))) on

  pub later_number : (op : Operation) (ops : List Operation) (j : ℕ) → at_number f none_ (op ∷ ops) (8 + j) ≡ at_number f none_ ops j
  later_number op ops j = let off : nat_lt (8 + j) 8 ≡ false = grind (arith, nat_tests) in let less : (8 + j) - 8 ≡ j = omega arith in
      ap {B = A} (λ b. cond b (f op (8 + j)) (at_number f none_ ops ((8 + j) - 8))) off ∙ ap (at_number f none_ ops) less

  pub number_there : (ops : List Operation) (o n : ℕ) (q : Operation) → slice_get ops o ≡ Some q → n < 8 → at_number f none_ ops (8 * o + n) ≡ f q n
  number_there [] o n q e low = absurd (cc)
  number_there (op ∷ ops) zero n q e low = let place : 8 * 0 + n ≡ n = omega arith in ap (at_number f none_ (op ∷ ops)) place ∙ (own_number op ops n low ∙ ap (λ x. f x n) (some_is op q e))
  number_there (op ∷ ops) (suc o) n q e low = let place : 8 * suc o + n ≡ 8 + (8 * o + n) = omega arith in ap (at_number f none_ (op ∷ ops)) place ∙ (later_number op ops (8 * o + n) ∙ number_there ops o n q e low)

abbrev counts : Operation → ℕ → Bool
counts op n = nat_lt n (attempts_of op.item)

-- this number is that of an attempt of one of the operations
abbrev pub is_attempt : List Operation → ℕ → Bool
is_attempt = at_number counts false

pub attempt_there : (ops : List Operation) (o n : ℕ) (q : Operation) → slice_get ops o ≡ Some q → n < attempts_of q.item → n < 8 → is_attempt ops (8 * o + n) ≡ true
attempt_there ops o n q e h low = let on : counts q n ≡ true = grind (arith, nat_tests) in number_there counts false ops o n q e low ∙ on

abbrev count_attempts : List Operation → ℕ
count_attempts ops = sum_by (λ (op : Operation). attempts_of op.item) ops

tally_attempts : (ops : List Operation) → AllByRecursion (λ (op : Operation). attempts_of op.item ≤ 8) ops → tally (is_attempt ops) (8 * length ops) ≡ count_attempts ops
tally_attempts [] small = refl
tally_attempts (op ∷ ops) small =
    let n = length ops in
    let whole : 8 * suc n ≡ 8 + 8 * n = omega arith in
    let split : tally (is_attempt (op ∷ ops)) (8 * suc n) ≡ tally (is_attempt (op ∷ ops)) 8 + tally (λ j. is_attempt (op ∷ ops) (8 + j)) (8 * n) = ap (tally (is_attempt (op ∷ ops))) whole ∙ tally_split (is_attempt (op ∷ ops)) 8 (8 * n) in
    let own : tally (is_attempt (op ∷ ops)) 8 ≡ attempts_of op.item = tally_same (is_attempt (op ∷ ops)) (counts op) 8 (own_number counts false op ops) ∙ first_of (attempts_of op.item) 8 small.0 in
    let later : tally (λ j. is_attempt (op ∷ ops) (8 + j)) (8 * n) ≡ tally (is_attempt ops) (8 * n) = tally_same (λ j. is_attempt (op ∷ ops) (8 + j)) (is_attempt ops) (8 * n) (λ j low. later_number counts false op ops j) in
    omega (arith, split, own, later, tally_attempts ops small.1, sum_by-cons (λ (x : Operation). attempts_of x.item) op ops)

attempts_counted : (client number : ℕ) (items : List Item) → count_attempts (operations_from client number items) ≤ sum_by attempts_of items
attempts_counted client number [] = omega arith
attempts_counted client number (item ∷ items) =
    let next : count_attempts (operations_from (client + 1) 1 items) ≤ sum_by attempts_of items = attempts_counted (client + 1) 1 items in
    let own : count_attempts (operations_from client (number + 1) items) ≤ sum_by attempts_of items = attempts_counted client (number + 1) items in
    let same : count_attempts (operations_from client number items) ≤ sum_by attempts_of items = attempts_counted client number items in
    let op : Operation = record { client = client; number = number; item = item } in
    let sum = sum_by-cons attempts_of item items in
    behind_item client number item items (λ ops. count_attempts ops ≤ sum_by attempts_of (item ∷ items))
    (λ c. omega (arith, next, sum))
    (λ c o. omega (arith, own, sum, sum_by-cons (λ (x : Operation). attempts_of x.item) op (operations_from client (number + 1) items)))
    (λ c o. omega (arith, same, sum))

-- a script has so many attempts at least
pub attempts_few : (script : List Item) → AllByRecursion (λ (op : Operation). attempts_of op.item ≤ 8) (operations script) → tally (is_attempt (operations script)) (8 * length (operations script)) ≤ attempts script
attempts_few script small = omega (arith, tally_attempts (operations script) small, attempts_counted 0 1 script)

-- ## Lists of accepted messages

abbrev pub Differ : Accepted → Accepted → Type 0
Differ a b = label a ≢ label b

-- each with another number that passes, so they are no more than these
pub few : (test : ℕ → Bool) (n : ℕ) (xs : List Accepted) → EachBefore Differ xs → ((a : Accepted) → Has xs a → (label a < n) × (test (label a) ≡ true)) → length xs ≤ tally test n
few test n xs apart pass =
    let Place : Accepted → ℕ → Type 0 = λ a j. label a ≡ j in
    places Place Differ n (λ a b j other e f. other (e ∙ sym f)) xs test apart (all_from (HasPlace Place test n) xs (λ a h. let w = pass a h in (label a, w.0, w.1, refl)))
