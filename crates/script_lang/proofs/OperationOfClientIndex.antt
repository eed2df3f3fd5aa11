-- Which operation of the script `C.I` is, and whether it is a call, by what was noted.
use Rattle.std.proofs.Common.{◌≡◌, ◌≢◌, ℕ, zero, suc, ◌+◌, ◌-◌, ◌<◌, ◌≤◌, ◌==◌, ◌||◌, ◌&&◌, Bool, true, false, cond, if◌then◌else◌, List, [], ◌∷◌, ◌++◌, length, map, filter, get_or, Option, Some, None, unwrap_or, count_by, append_assoc, refl, ap, sym, subst, ◌∙◌, arith}
use Rattle.std.proofs.lemmas.Bool.Decides.{nat_tests}
use Rattle.std.proofs.lemmas.List.{length-append}
use Rattle.std.proofs.lemmas.List.Sums.{sum_by-cons}
use Rattle.std.specs.List.{list_any}
use Rattle.brpc_model.specs.Items.{Item, Slots, Requests, First, Client, Sched, Tick, To, is_operation, is_open, is_call}
use Rattle.brpc_model.specs.Operations.{Operation, operations_from, operations}
use Rattle.brpc_model.specs.Script.{is_the_call}
use Rattle.seat_programs.specs.Tasks.{Numbered, numbered_from, numbered, number_of}
use Rattle.script_lang.specs.OperationNumbers.{Numbers, begins_along, numbers_of, is_within, within, operation_in, is_call_at, has_call}
use Rattle.script_lang.specs.TasksByLine.{AreNumbersOf}

-- how many operations there are with those of these items, before which so many came
abbrev pub total_along : ℕ → List Item → ℕ
total_along number [] = number
total_along number (item ∷ items) = if is_operation item then total_along (number + 1) items else total_along number items

pub total_is : (number : ℕ) (items : List Item) → total_along number items ≡ number + count_by is_operation items
total_is number [] = omega arith
total_is number (item ∷ items) =
    let own : count_by is_operation (item ∷ items) ≡ cond {A = ℕ} (is_operation item) 1 0 + count_by is_operation items = sum_by-cons (λ (x : Item). cond (is_operation x) 1 0) item items in
    by (is_operation item) (total_is (number + 1) items) (total_is number items) ∙ ap (λ n. number + n) (sym own)
  where
    by : (o : Bool) → total_along (number + 1) items ≡ number + 1 + count_by is_operation items → total_along number items ≡ number + count_by is_operation items →
        (if o then total_along (number + 1) items else total_along number items) ≡ number + (cond {A = ℕ} o 1 0 + count_by is_operation items)
    by true next same = omega (arith, next)
    by false next same = omega (arith, same)

-- which of the operations of these items are calls
abbrev pub flags : List Item → List Bool
flags items = map is_call (filter is_operation items)

by_sort : (c k number : ℕ) (item : Item) (items : List Item) (P : List ℕ → ℕ → List Bool → List Operation → Type 0) →
    P (number ∷ begins_along number items) (total_along number items) (flags items) (operations_from (c + 1) 1 items) →
    P (begins_along (number + 1) items) (total_along (number + 1) items) (is_call item ∷ flags items) ((record { client = c; number = k; item = item }) ∷ operations_from c (k + 1) items) →
    P (begins_along number items) (total_along number items) (flags items) (operations_from c k items) →
    P (begins_along number (item ∷ items)) (total_along number (item ∷ items)) (flags (item ∷ items)) (operations_from c k (item ∷ items))
by_sort c k number Client items P a b d = a
by_sort c k number (Slots n) items P a b d = d
by_sort c k number (Requests n) items P a b d = d
by_sort c k number (First n) items P a b d = d
by_sort c k number Sched items P a b d = d
by_sort c k number (Tick s n) items P a b d = d
by_sort c k number (To s n) items P a b d = d
by_sort c k number other items P a b d = b

-- ## The client in hand

-- it has no operations behind its end
within_none : (start k i : ℕ) → within start k start i ≡ None
within_none start k i = let test : is_within start k start i ≡ false = grind (arith, nat_tests) in ap (λ b. if b then Some (start + (i - k)) else None) test

-- and none before its next one
within_early : (start k finish i : ℕ) → i < k → within start k finish i ≡ None
within_early start k finish i h = let test : is_within start k finish i ≡ false = grind (arith, nat_tests, h) in ap (λ b. if b then Some (start + (i - k)) else None) test

-- the next operation is the one sought
within_here : (number k finish i : ℕ) → number + 1 ≤ finish → (k == i) ≡ true → within number k finish i ≡ Some number
within_here number k finish i some e =
    let same : k ≡ i = grind (arith, nat_tests, e) in
    let test : is_within number k finish i ≡ true = grind (arith, nat_tests, some, same) in
    let place : number + (i - k) ≡ number = omega (arith, same) in
    ap (λ b. if b then Some (number + (i - k)) else None) test ∙ ap (λ n. Some n) place

-- or comes before it
within_later : (number k finish i : ℕ) → number + 1 ≤ finish → (k == i) ≡ false → within number k finish i ≡ within (number + 1) (k + 1) finish i
within_later number k finish i some e =
    let other : k ≢ i = grind (arith, nat_tests, e) in
    let test : is_within number k finish i ≡ is_within (number + 1) (k + 1) finish i = grind (arith, nat_tests, some, other) in
    ap (λ b. if b then Some (number + (i - k)) else None) test ∙ same (is_within (number + 1) (k + 1) finish i) (λ inside. (let before : k + 1 ≤ i = grind (arith, nat_tests, inside) in omega (arith, before)))
  where
    same : (b : Bool) → (b ≡ true → number + (i - k) ≡ number + 1 + (i - (k + 1))) → (if b then Some (number + (i - k)) else None) ≡ (if b then Some (number + 1 + (i - (k + 1))) else None)
    same true h = ap (λ n. Some n) (h refl)
    same false h = refl

-- where its operations end
abbrev pub first_end : ℕ → List Item → ℕ
first_end number items = get_or (begins_along number items) 0 (total_along number items)

-- which is behind what came before
end_some : (number : ℕ) (items : List Item) → number ≤ first_end number items
end_some number [] = omega arith
end_some number (item ∷ items) =
    by_sort 0 0 number item items (λ begins total are ops. number ≤ get_or begins 0 total)
    (omega arith)
    (let h : number + 1 ≤ first_end (number + 1) items = end_some (number + 1) items in omega (arith, h))
    (end_some number items)

-- ## All clients

-- of the client in hand, whose next operation is its k-th, and of those behind it
abbrev pub found_from : ℕ → ℕ → List ℕ → ℕ → ℕ → ℕ → Option ℕ
found_from start k begins total zero i = within start k (get_or begins 0 total) i
found_from start k begins total (suc d) i = within (get_or begins d total) 1 (get_or begins (suc d) total) i

found_first : (start k : ℕ) (begins : List ℕ) (total d i : ℕ) → found_from start k (start ∷ begins) total (suc d) i ≡ found_from start 1 begins total d i
found_first start k begins total zero i = refl
found_first start k begins total (suc d) i = refl

found_none : (number k d i : ℕ) → found_from number k [] number d i ≡ None
found_none number k zero i = within_none number k i
found_none number k (suc d) i = within_none number 1 i

in_table : (numbers : Numbers) (client i : ℕ) → operation_in numbers client i ≡ found_from 0 1 numbers.begins numbers.operations client i
in_table numbers zero i = refl
in_table numbers (suc client) i = refl

-- ## Its number

-- an operation of another client, or of another number, isn't the one sought
passed_over : (x : Numbered) (xs : List Numbered) (client i : ℕ) → x.op.client ≢ client → number_of (x ∷ xs) client i ≡ number_of xs client i
passed_over x xs client i other = let no : (x.op.client == client) ≡ false = grind (arith, nat_tests, other) in ap (λ b. cond (b && (x.op.number == i)) x.number (number_of xs client i)) no

own_or_later : (x : Numbered) (xs : List Numbered) (client i : ℕ) → x.op.client ≡ client → number_of (x ∷ xs) client i ≡ (if x.op.number == i then x.number else number_of xs client i)
own_or_later x xs client i own = let yes : (x.op.client == client) ≡ true = grind (arith, nat_tests, own) in ap (λ b. cond (b && (x.op.number == i)) x.number (number_of xs client i)) yes

-- the operations of later clients are none of an earlier one
none_before : (c k number link : ℕ) (items : List Item) (client i : ℕ) → client < c → number_of (numbered_from number link (operations_from c k items)) client i ≡ 0
none_before c k number link [] client i h = refl
none_before c k number link (item ∷ items) client i h =
    let link_ = if is_open item then link + 1 else link in
    let x : Numbered = record { number = number; link = link; op = record { client = c; number = k; item = item } } in
    by_sort c k number item items (λ begins total are ops. number_of (numbered_from number link ops) client i ≡ 0)
    (none_before (c + 1) 1 number link items client i (omega (arith, h)))
    (passed_over x (numbered_from (number + 1) link_ (operations_from c (k + 1) items)) client i (λ e. omega (arith, h, e)) ∙ none_before c (k + 1) (number + 1) link_ items client i h)
    (none_before c k number link items client i h)

-- the number is this one, where the next client begins
module _ (c k number link : ℕ) (items : List Item) (i : ℕ) where
  abbrev later_client : ℕ → ℕ
  later_client client = number_of (numbered_from number link (operations_from (c + 1) 1 items)) client i

  next_client : ((d : ℕ) → later_client (c + 1 + d) ≡ unwrap_or (found_from number 1 (begins_along number items) (total_along number items) d i) 0) →
      (d : ℕ) → later_client (c + d) ≡ unwrap_or (found_from number k (number ∷ begins_along number items) (total_along number items) d i) 0
  next_client again zero = none_before (c + 1) 1 number link items (c + 0) i (omega arith) ∙ ap (λ o. unwrap_or o 0) (sym (within_none number k i))
  next_client again (suc d) =
      let same : c + suc d ≡ c + 1 + d = omega arith in
      ap later_client same ∙ again d ∙ ap (λ o. unwrap_or o 0) (sym (found_first number k (begins_along number items) (total_along number items) d i))

-- and where the client in hand has one more operation
module _ (c k number link : ℕ) (item : Item) (items : List Item) (i : ℕ) where
  abbrev found_next : ℕ → Option ℕ
  found_next d = found_from (number + 1) (k + 1) (begins_along (number + 1) items) (total_along (number + 1) items) d i

  abbrev rest : List Numbered
  rest = numbered_from (number + 1) (if is_open item then link + 1 else link) (operations_from c (k + 1) items)

  abbrev own : Numbered
  own = record { number = number; link = link; op = record { client = c; number = k; item = item } }

  own_operation : ((d : ℕ) → number_of rest (c + d) i ≡ unwrap_or (found_next d) 0) →
      (d : ℕ) → number_of (own ∷ rest) (c + d) i ≡ unwrap_or (found_from number k (begins_along (number + 1) items) (total_along (number + 1) items) d i) 0
  own_operation again zero = own_or_later own rest (c + 0) i (omega arith) ∙ by (k == i) refl
    where
      by : (b : Bool) → (k == i) ≡ b → (if b then number else number_of rest (c + 0) i) ≡ unwrap_or (within number k (first_end (number + 1) items) i) 0
      by true e = ap (λ o. unwrap_or o 0) (sym (within_here number k (first_end (number + 1) items) i (end_some (number + 1) items) e))
      by false e = again zero ∙ ap (λ o. unwrap_or o 0) (sym (within_later number k (first_end (number + 1) items) i (end_some (number + 1) items) e))
  own_operation again (suc d) = passed_over own rest (c + suc d) i (λ (e : c ≡ c + suc d). omega (arith, e)) ∙ again (suc d)

found_is : (c k number link : ℕ) (items : List Item) (d i : ℕ) → number_of (numbered_from number link (operations_from c k items)) (c + d) i ≡ unwrap_or (found_from number k (begins_along number items) (total_along number items) d i) 0
found_is c k number link [] d i = ap (λ o. unwrap_or o 0) (sym (found_none number k d i))
found_is c k number link (item ∷ items) d i =
    by_sort c k number item items (λ begins total are ops. number_of (numbered_from number link ops) (c + d) i ≡ unwrap_or (found_from number k begins total d i) 0)
    (next_client c k number link items i (λ e. found_is (c + 1) 1 number link items e i) d)
    (own_operation c k number link item items i (λ e. found_is c (k + 1) (number + 1) (if is_open item then link + 1 else link) items e i) d)
    (found_is c k number link items d i)

-- `C.I` by the numbers of a script
found_in : (script : List Item) (client i : ℕ) → found_from 0 1 (begins_along 0 script) (total_along 0 script) client i ≡ operation_in (numbers_of script) client i
found_in script client i =
    let all : total_along 0 script ≡ count_by is_operation script = (let t = total_is 0 script in omega (arith, t)) in
    ap (λ t. found_from 0 1 (begins_along 0 script) t client i) all ∙ sym (in_table (numbers_of script) client i)

knows_all : (script : List Item) → AreNumbersOf (numbers_of script) (numbered script)
knows_all script client i =
    let same : client ≡ 0 + client = omega arith in
    ap (λ n. number_of (numbered script) n i) same ∙ found_is 0 1 0 0 script client i ∙ ap (λ o. unwrap_or o 0) (found_in script client i)

pub known_by : {numbers : Numbers} (script : List Item) → numbers ≡ numbers_of script → AreNumbersOf numbers (numbered script)
known_by script e = subst (λ ns. AreNumbersOf ns (numbered script)) (sym e) (knows_all script)

-- ## Whether it is a call

none_called : (c k : ℕ) (items : List Item) (client i : ℕ) → client < c → list_any (is_the_call client i) (operations_from c k items) ≡ false
none_called c k [] client i h = refl
none_called c k (item ∷ items) client i h =
    let no : (c == client) ≡ false = grind (arith, nat_tests, h) in
    by_sort c k 0 item items (λ begins total are ops. list_any (is_the_call client i) ops ≡ false)
    (none_called (c + 1) 1 items client i (omega (arith, h)))
    (ap (λ b. (b && (k == i) && is_call item) || list_any (is_the_call client i) (operations_from c (k + 1) items)) no ∙ none_called c (k + 1) items client i h)
    (none_called c k items client i h)

at_front : (front : List Bool) (flag : Bool) (behind : List Bool) → get_or (front ++ flag ∷ behind) (length front) false ≡ flag
at_front [] flag behind = refl
at_front (x ∷ front) flag behind = at_front front flag behind

-- where the next client begins; the flags of those before come first
called_next : (c k number : ℕ) (items : List Item) (are : List Bool) (i : ℕ) →
    ((d : ℕ) → list_any (is_the_call (c + 1 + d) i) (operations_from (c + 1) 1 items) ≡ is_call_at are (found_from number 1 (begins_along number items) (total_along number items) d i)) →
    (d : ℕ) → list_any (is_the_call (c + d) i) (operations_from (c + 1) 1 items) ≡ is_call_at are (found_from number k (number ∷ begins_along number items) (total_along number items) d i)
called_next c k number items are i again zero = none_called (c + 1) 1 items (c + 0) i (omega arith) ∙ ap (is_call_at are) (sym (within_none number k i))
called_next c k number items are i again (suc d) =
    let same : c + suc d ≡ c + 1 + d = omega arith in
    ap (λ n. list_any (is_the_call n i) (operations_from (c + 1) 1 items)) same ∙ again d ∙ ap (is_call_at are) (sym (found_first number k (begins_along number items) (total_along number items) d i))

-- where the client in hand has one more operation
module _ (c k number : ℕ) (item : Item) (items : List Item) (are : List Bool) (i : ℕ) (here : get_or are number false ≡ is_call item) where
  abbrev called_later : ℕ → Bool
  called_later client = list_any (is_the_call client i) (operations_from c (k + 1) items)

  called_own : ((d : ℕ) → called_later (c + d) ≡ is_call_at are (found_from (number + 1) (k + 1) (begins_along (number + 1) items) (total_along (number + 1) items) d i)) →
      (d : ℕ) → (((c == c + d) && (k == i) && is_call item) || called_later (c + d)) ≡ is_call_at are (found_from number k (begins_along (number + 1) items) (total_along (number + 1) items) d i)
  called_own again zero =
      let own : (c == c + 0) ≡ true = grind (arith, nat_tests) in
      ap (λ b. (b && (k == i) && is_call item) || called_later (c + 0)) own ∙ by (k == i) refl
    where
      or_false : (a b : Bool) → b ≡ false → (a || b) ≡ a
      or_false true b e = refl
      or_false false b e = e

      by : (b : Bool) → (k == i) ≡ b → ((b && is_call item) || called_later (c + 0)) ≡ is_call_at are (within number k (first_end (number + 1) items) i)
      by true e =
          let same : k ≡ i = grind (arith, nat_tests, e) in
          let none : called_later (c + 0) ≡ false = again zero ∙ ap (is_call_at are) (within_early (number + 1) (k + 1) (first_end (number + 1) items) i (omega (arith, same))) in
          or_false (is_call item) (called_later (c + 0)) none ∙ sym here ∙ ap (is_call_at are) (sym (within_here number k (first_end (number + 1) items) i (end_some (number + 1) items) e))
      by false e = again zero ∙ ap (is_call_at are) (sym (within_later number k (first_end (number + 1) items) i (end_some (number + 1) items) e))
  called_own again (suc d) =
      let no : (c == c + suc d) ≡ false = grind (arith, nat_tests) in
      ap (λ b. (b && (k == i) && is_call item) || called_later (c + suc d)) no ∙ again (suc d)

-- the flags of one operation more come first
called_more : (c k : ℕ) (front : List Bool) (item : Item) (items : List Item) (i : ℕ) → let longer = front ++ is_call item ∷ [] in
    ((d : ℕ) → list_any (is_the_call (c + d) i) (operations_from c (k + 1) items) ≡ is_call_at (longer ++ flags items) (found_from (length longer) (k + 1) (begins_along (length longer) items) (total_along (length longer) items) d i)) →
    (d : ℕ) → list_any (is_the_call (c + d) i) (operations_from c (k + 1) items)
    ≡ is_call_at (front ++ is_call item ∷ flags items) (found_from (length front + 1) (k + 1) (begins_along (length front + 1) items) (total_along (length front + 1) items) d i)
called_more c k front item items i again d =
    again d
    ∙ ap (λ n. is_call_at ((front ++ is_call item ∷ []) ++ flags items) (found_from n (k + 1) (begins_along n items) (total_along n items) d i)) (length-append front (is_call item ∷ []))
    ∙ ap (λ are. is_call_at are (found_from (length front + 1) (k + 1) (begins_along (length front + 1) items) (total_along (length front + 1) items) d i)) (append_assoc front (is_call item ∷ []) (flags items))

called_is : (c k : ℕ) (front : List Bool) (items : List Item) (d i : ℕ) →
    list_any (is_the_call (c + d) i) (operations_from c k items) ≡ is_call_at (front ++ flags items) (found_from (length front) k (begins_along (length front) items) (total_along (length front) items) d i)
called_is c k front [] d i = ap (is_call_at (front ++ [])) (sym (found_none (length front) k d i))
called_is c k front (item ∷ items) d i =
    by_sort c k (length front) item items (λ begins total are ops. list_any (is_the_call (c + d) i) ops ≡ is_call_at (front ++ are) (found_from (length front) k begins total d i))
    (called_next c k (length front) items (front ++ flags items) i (λ e. called_is (c + 1) 1 front items e i) d)
    (called_own c k (length front) item items (front ++ is_call item ∷ flags items) i (at_front front (is_call item) (flags items))
    (called_more c k front item items i (λ e. called_is c (k + 1) (front ++ is_call item ∷ []) items e i)) d)
    (called_is c k front items d i)

-- what is noted tells which operations are calls
pub called_are : (script : List Item) (client i : ℕ) → has_call (numbers_of script) client i ≡ list_any (is_the_call client i) (operations script)
called_are script client i =
    let same : 0 + client ≡ client = omega arith in
    ap (is_call_at (flags script)) (sym (found_in script client i)) ∙ sym (called_is 0 1 [] script client i) ∙ ap (λ n. list_any (is_the_call n i) (operations script)) same
