-- How many messages links accept, each with a label of its own, which is that of an attempt of an operation of the script.
use Rattle.std.proofs.Common.{◌≡◌, ◌≢◌, ℕ, ◌+◌, ◌*◌, ◌<◌, ◌≤◌, true, List, length, flat_map, slice_get, Some, refl, sym, ◌∙◌, arith}
use Rattle.std.proofs.lemmas.Option.{slice_get_within}
use Rattle.std.specs.List.{AllByRecursion}
use Rattle.brpc_model.specs.Items.{Item, Send, Call, attempts_of}
use Rattle.brpc_model.specs.Operations.{Operation, operations, link_names, attempts}
use Rattle.brpc_model.specs.Order.{EachBefore}
use Rattle.seat_programs.specs.ScheduledRuns.{from_to}
use Rattle.seat_programs.specs.ExplainedCalls.{Accepted, Order, StandsAt, all_accepted, label}
use Rattle.script_facts.proofs.FilteredLists.{Has, some_is, all_from, all_at, before_from}
use Rattle.script_facts.proofs.Flat.{flat_has, flat_before, flat_length, from_to_at, from_to_length}
use Rattle.script_facts.proofs.CountingPlaces.{tally, but, but_other, one_less, tally_all}
use Rattle.script_facts.proofs.OperationNumbering.{are_from}
use Rattle.script_facts.proofs.ReadScriptFacts.{InRange}
use Rattle.script_facts.proofs.LabelCounts.{is_attempt, attempt_there, attempts_few, Differ, few}

pub range_small : (item : Item) → InRange item → attempts_of item ≤ 8
range_small (Send name bytes) h = omega arith
range_small (Call call) h = let r = h.retry in omega (arith, r)
range_small other h = omega arith

link_low : (n i k : ℕ) → slice_get (from_to 0 n) i ≡ Some k → (k ≡ i) × (k < n)
link_low n i k e =
    let low : i < n = omega (arith, slice_get_within (from_to 0 n) i k e, from_to_length 0 n) in
    let same : k ≡ 0 + i = some_is k (0 + i) (sym e ∙ from_to_at 0 n i low) in
    (omega (arith, same), omega (arith, same, low))

-- no two accepted messages have one label
module _ (links : ℕ) (orders : ℕ → Order) (apart : (k l i j : ℕ) (a b : Accepted) → k < links → l < links → StandsAt orders k i a → StandsAt orders l j b → label a ≡ label b → (k ≡ l) × (i ≡ j)) where
  own_differ : (k : ℕ) → k < links → EachBefore Differ (orders k).accepted
  own_differ k low = before_from Differ (orders k).accepted (λ i j a b less at bt same. let e = (apart k k i j a b low low at bt same).1 in let z : ⊥ = omega (arith, less, e) in z)

  -- so each stands at a place that its link's place words can tell
  pub inside : (n : ℕ) → n ≤ 4096 → ((k i : ℕ) (a : Accepted) → k < links → StandsAt orders k i a → (a.operation < n) × (a.attempt < 8)) → (k i : ℕ) (a : Accepted) → k < links → StandsAt orders k i a → (i < 4294967295) × (a.operation < n) × (a.attempt < 8)
  inside n few_n labels k i a low at =
      let bound = few (λ (j : ℕ). true) (8 * n) (orders k).accepted (own_differ k low) (λ b h. (let l = labels k h.0 b low h.1 in let o = l.0 in let m = l.1 in omega (arith, o, m), refl)) in
      let i_low = slice_get_within (orders k).accepted i a at in
      let l = labels k i a low at in
      (omega (arith, bound, i_low, tally_all (8 * n), few_n), l.0, l.1)

  abbrev accepted_of : ℕ → List Accepted
  accepted_of k = (orders k).accepted

  abbrev all_of : List Accepted
  all_of = flat_map accepted_of (from_to 0 links)

  all_differ : EachBefore Differ all_of
  all_differ = flat_before Differ accepted_of (from_to 0 links)
      (λ i k e. own_differ k (link_low links i k e).1)
      (λ i j p q k l a b less e f at bt same. (
      let v = link_low links i k e in
      let w = link_low links j l f in
      let z = (apart k l p q a b v.1 w.1 at bt same).0 in
      let no : ⊥ = omega (arith, less, v.0, w.0, z) in no
      ))

-- messages of attempts of the script's operations, each with a label of its own, of which none is of this attempt
module _ (script : List Item) (small : AllByRecursion (λ (op : Operation). attempts_of op.item ≤ 8) (operations script)) (all : List Accepted) (differ : EachBefore Differ all)
    (labels : (a : Accepted) → Has all a → (a.attempt < 8) × (label a < 8 * length (operations script)) × (is_attempt (operations script) (label a) ≡ true)) where
  -- are fewer than there are attempts
  pub lacking : (o n : ℕ) (q : Operation) → slice_get (operations script) o ≡ Some q → n < attempts_of q.item → ((a : Accepted) → Has all a → a.operation ≡ o → a.attempt ≡ n → ⊥) → length all < attempts script
  lacking o n q there counts out =
      let few_ = all_at (λ (op : Operation). attempts_of op.item ≤ 8) (operations script) q small (o, there) in
      let eight : n < 8 = omega (arith, counts, few_) in
      let test = is_attempt (operations script) in
      let most = 8 * length (operations script) in
      let place = 8 * o + n in
      let low : place < most = omega (arith, slice_get_within (operations script) o q there, eight) in
      let bound : length all ≤ tally (but test place) most = few (but test place) most all differ (λ a h. (let l = labels a h in (l.1, but_other test place (label a) (other a h eight) ∙ l.2))) in
      omega (arith, bound, one_less test place most low (attempt_there (operations script) o n q there counts eight), attempts_few script small)
    where
      other : (a : Accepted) → Has all a → n < 8 → label a ≢ 8 * o + n
      other a h low same =
          let w = labels a h in
          let operation : a.operation ≡ o = omega (arith, same, low, w.0) in
          let attempt : a.attempt ≡ n = omega (arith, same, low, w.0) in
          out a h operation attempt

-- each of them is an attempt of its operation
module _ (script : List Item) (range : AllByRecursion InRange script) (orders : ℕ → Order)
    (apart : (k l i j : ℕ) (a b : Accepted) → k < length (link_names script) → l < length (link_names script) → StandsAt orders k i a → StandsAt orders l j b → label a ≡ label b → (k ≡ l) × (i ≡ j))
    (counted : (k i : ℕ) (a : Accepted) → k < length (link_names script) → StandsAt orders k i a → (q : Operation) × (slice_get (operations script) a.operation ≡ Some q) × (a.attempt < attempts_of q.item)) where
  abbrev Ops : List Operation
  Ops = operations script

  abbrev links_of : ℕ
  links_of = length (link_names script)

  small : AllByRecursion (λ (op : Operation). attempts_of op.item ≤ 8) Ops
  small = all_from (λ (op : Operation). attempts_of op.item ≤ 8) Ops (λ q h. range_small q.item (all_at InRange script q.item range (are_from 0 1 script h.0 q h.1).there))

  abbrev most : ℕ
  most = 8 * length Ops

  labels_there : (k i : ℕ) (a : Accepted) → k < links_of → StandsAt orders k i a → (a.attempt < 8) × (a.operation < length Ops) × (label a < most) × (is_attempt Ops (label a) ≡ true)
  labels_there k i a low at =
      let w = counted k i a low at in
      let in_script : a.operation < length Ops = slice_get_within Ops a.operation w.0 w.1 in
      let few_ = all_at (λ (op : Operation). attempts_of op.item ≤ 8) Ops w.0 small (a.operation, w.1) in
      let counts = w.2 in
      let eight : a.attempt < 8 = omega (arith, counts, few_) in
      (eight, in_script, omega (arith, eight, in_script), attempt_there Ops a.operation a.attempt w.0 w.1 counts eight)

  pub inside_script : length Ops ≤ 4096 → (k i : ℕ) (a : Accepted) → k < links_of → StandsAt orders k i a → (i < 4294967295) × (a.operation < length Ops) × (a.attempt < 8)
  inside_script limit = inside links_of orders apart (length Ops) limit (λ k i a low at. let w = labels_there k i a low at in (w.1, w.0))

  -- an attempt that no link accepted is one more than those that were accepted
  pub fewer : (o n : ℕ) (q : Operation) → slice_get Ops o ≡ Some q → n < attempts_of q.item → ((k i : ℕ) (a : Accepted) → k < links_of → StandsAt orders k i a → a.operation ≡ o → a.attempt ≡ n → ⊥) → all_accepted links_of orders < attempts script
  fewer o n q there counts out =
      let as_many : all_accepted links_of orders ≡ length (all_of links_of orders apart) = sym (flat_length (accepted_of links_of orders apart) (from_to 0 links_of)) in
      omega (arith, as_many, lacking script small (all_of links_of orders apart) (all_differ links_of orders apart) labels o n q there counts others)
    where
      -- where the message stands
      stands : (a : Accepted) → Has (all_of links_of orders apart) a → (k : ℕ) × (i : ℕ) × (k < links_of) × StandsAt orders k i a
      stands a h = let w = flat_has (accepted_of links_of orders apart) (from_to 0 links_of) a h in (w.2, w.1, (link_low links_of w.0 w.2 w.3).1, w.4)

      labels : (a : Accepted) → Has (all_of links_of orders apart) a → (a.attempt < 8) × (label a < most) × (is_attempt Ops (label a) ≡ true)
      labels a h = let w = stands a h in let l = labels_there w.0 w.1 a w.2 w.3 in (l.0, l.2, l.3)

      others : (a : Accepted) → Has (all_of links_of orders apart) a → a.operation ≡ o → a.attempt ≡ n → ⊥
      others a h operation attempt = let w = stands a h in out w.0 w.1 a w.2 w.3 operation attempt
