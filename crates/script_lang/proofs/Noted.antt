-- What is noted grows with each line.
use Rattle.std.proofs.Common.{◌≡◌, ℕ, ◌+◌, Bool, true, false, not, ◌||◌, cond, if◌then◌else◌, List, [], ◌∷◌, ◌++◌, map, filter, count_by, append-nil, refl, ap, sym, ◌∙◌, arith}
use Rattle.brpc_model.specs.Items.{Item, Client, Open, Call, is_client, is_size, is_sched, is_turn, is_operation, is_open, is_call}
use Rattle.seat_programs.specs.Tasks.{opens, calls}
use Rattle.script_lang.specs.declared.counts.Counts.{Counts}
use Rattle.script_lang.specs.CountedLines.{and_one}
use Rattle.script_lang.specs.OperationNumbers.{begins_along, and_number, numbers_of, numbers_behind}
use Rattle.script_lang.specs.TasksByLine.{numbers_along}
use Rattle.script_lang.proofs.ByLine.{opens_are, calls_are}
use Rattle.script_lang.proofs.Judged.{counts_more}
use Rattle.script_lang.proofs.OperationOfClientIndex.{total_along, total_is, flags}

-- ## The numbers behind one more item

numbers_end : (sort : Item → Bool) (number : ℕ) (before : List Item) (item : Item) → numbers_along sort number (before ++ item ∷ []) ≡ numbers_along sort number before ++ numbers_along sort (total_along number before) (item ∷ [])
numbers_end sort number [] item = refl
numbers_end sort number (x ∷ xs) item = by (is_operation x) (sort x) (numbers_end sort (number + 1) xs item) (numbers_end sort number xs item)
  where
    by : (o s : Bool) →
        numbers_along sort (number + 1) (xs ++ item ∷ []) ≡ numbers_along sort (number + 1) xs ++ numbers_along sort (total_along (number + 1) xs) (item ∷ []) →
        numbers_along sort number (xs ++ item ∷ []) ≡ numbers_along sort number xs ++ numbers_along sort (total_along number xs) (item ∷ []) →
        (if o then (if s then number ∷ numbers_along sort (number + 1) (xs ++ item ∷ []) else numbers_along sort (number + 1) (xs ++ item ∷ [])) else numbers_along sort number (xs ++ item ∷ []))
        ≡ (if o then (if s then number ∷ numbers_along sort (number + 1) xs else numbers_along sort (number + 1) xs) else numbers_along sort number xs) ++ numbers_along sort (if o then total_along (number + 1) xs else total_along number xs) (item ∷ [])
    by true true next same = ap (λ l. number ∷ l) next
    by true false next same = next
    by false s next same = same

begins_end : (number : ℕ) (before : List Item) (item : Item) → begins_along number (before ++ item ∷ []) ≡ begins_along number before ++ begins_along (total_along number before) (item ∷ [])
begins_end number [] item = refl
begins_end number (x ∷ xs) item = by (is_client x) (is_operation x) no_operation (begins_end (number + 1) xs item) (begins_end number xs item)
  where
    no_operation : is_client x ≡ true → is_operation x ≡ false
    no_operation e = ap (λ b. not (b || is_size x || is_sched x || is_turn x)) e

    by : (k o : Bool) → (k ≡ true → o ≡ false) →
        begins_along (number + 1) (xs ++ item ∷ []) ≡ begins_along (number + 1) xs ++ begins_along (total_along (number + 1) xs) (item ∷ []) →
        begins_along number (xs ++ item ∷ []) ≡ begins_along number xs ++ begins_along (total_along number xs) (item ∷ []) →
        (if k then number ∷ begins_along number (xs ++ item ∷ []) else if o then begins_along (number + 1) (xs ++ item ∷ []) else begins_along number (xs ++ item ∷ []))
        ≡ (if k then number ∷ begins_along number xs else if o then begins_along (number + 1) xs else begins_along number xs) ++ begins_along (if o then total_along (number + 1) xs else total_along number xs) (item ∷ [])
    by true true h next same = let e : true ≡ false = h refl in absurd (cc)
    by true false h next same = ap (λ l. number ∷ l) same
    by false true h next same = next
    by false false h next same = same

flags_end : (before : List Item) (item : Item) → flags (before ++ item ∷ []) ≡ flags before ++ flags (item ∷ [])
flags_end [] item = refl
flags_end (x ∷ xs) item = by (is_operation x) (flags_end xs item)
  where
    by : (o : Bool) → flags (xs ++ item ∷ []) ≡ flags xs ++ flags (item ∷ []) →
        map is_call (cond o (x ∷ filter is_operation (xs ++ item ∷ [])) (filter is_operation (xs ++ item ∷ []))) ≡ map is_call (cond o (x ∷ filter is_operation xs) (filter is_operation xs)) ++ flags (item ∷ [])
    by true same = ap (λ l. is_call x ∷ l) same
    by false same = same

-- ## By what the item is

one_open : (numbers : List ℕ) (number : ℕ) (item : Item) → numbers ++ numbers_along is_open number (item ∷ []) ≡ and_number (is_open item) numbers number
one_open numbers number (Open name shape) = refl
one_open numbers number _ = append-nil numbers

one_call : (numbers : List ℕ) (number : ℕ) (item : Item) → numbers ++ numbers_along is_call number (item ∷ []) ≡ and_number (is_call item) numbers number
one_call numbers number (Call call) = refl
one_call numbers number _ = append-nil numbers

one_client : (numbers : List ℕ) (number : ℕ) (item : Item) → numbers ++ begins_along number (item ∷ []) ≡ and_number (is_client item) numbers number
one_client numbers number Client = refl
one_client numbers number _ = append-nil numbers

flags_more : (before : List Item) (item : Item) → flags (before ++ item ∷ []) ≡ (if is_operation item then flags before ++ is_call item ∷ [] else flags before)
flags_more before item = flags_end before item ∙ by (is_operation item)
  where
    by : (o : Bool) → flags before ++ map is_call (cond o (item ∷ []) []) ≡ (if o then flags before ++ is_call item ∷ [] else flags before)
    by true = refl
    by false = append-nil (flags before)

all_before : (before : List Item) → total_along 0 before ≡ count_by is_operation before
all_before before = let t = total_is 0 before in omega (arith, t)

opens_more : (before : List Item) (item : Item) → opens (before ++ item ∷ []) ≡ and_number (is_open item) (opens before) (count_by is_operation before)
opens_more before item =
    sym (opens_are (before ++ item ∷ [])) ∙ numbers_end is_open 0 before item
    ∙ ap (λ n. numbers_along is_open 0 before ++ numbers_along is_open n (item ∷ [])) (all_before before)
    ∙ ap (λ ns. ns ++ numbers_along is_open (count_by is_operation before) (item ∷ [])) (opens_are before)
    ∙ one_open (opens before) (count_by is_operation before) item

calls_more : (before : List Item) (item : Item) → calls (before ++ item ∷ []) ≡ and_number (is_call item) (calls before) (count_by is_operation before)
calls_more before item =
    sym (calls_are (before ++ item ∷ [])) ∙ numbers_end is_call 0 before item
    ∙ ap (λ n. numbers_along is_call 0 before ++ numbers_along is_call n (item ∷ [])) (all_before before)
    ∙ ap (λ ns. ns ++ numbers_along is_call (count_by is_operation before) (item ∷ [])) (calls_are before)
    ∙ one_call (calls before) (count_by is_operation before) item

begins_more : (before : List Item) (item : Item) → begins_along 0 (before ++ item ∷ []) ≡ and_number (is_client item) (begins_along 0 before) (count_by is_operation before)
begins_more before item =
    begins_end 0 before item ∙ ap (λ n. begins_along 0 before ++ begins_along n (item ∷ [])) (all_before before) ∙ one_client (begins_along 0 before) (count_by is_operation before) item

pub numbers_more : (before : List Item) (item : Item) → numbers_of (before ++ item ∷ []) ≡ numbers_behind (numbers_of before) (count_by is_operation before) item
numbers_more before item =
    let operations : count_by is_operation (before ++ item ∷ []) ≡ and_one (is_operation item) (count_by is_operation before) = ap (λ (c : Counts). c.operations) (counts_more before item) in
    let are_calls = flags_more before item in
    let opens_ = opens_more before item in
    let calls_ = calls_more before item in
    let begins = begins_more before item in
    rw (operations, are_calls, opens_, calls_, begins) refl
