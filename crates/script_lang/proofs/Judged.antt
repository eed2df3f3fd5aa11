-- What the counts say of the next line, and how they grow by it.
use Rattle.std.proofs.Common.{◌≡◌, ℕ, ◌+◌, ◌≤◌, Bool, true, false, not, ◌||◌, ◌&&◌, nat_lt, nat_le, cond, List, [], ◌∷◌, ◌++◌, length, count_by, fold, filter_map, slice_get, Option, Some, None, is_some, refl, ap, sym, ◌∙◌, arith}
use Rattle.std.proofs.lemmas.Grind.{common_steps}
use Rattle.std.proofs.lemmas.List.Folds.{list_any-append}
use Rattle.std.proofs.lemmas.List.Sums.{sum_by-cons}
use Rattle.std.specs.List.{list_any, cons_option}
use Rattle.std.specs.Option.{option_or}
use Rattle.brpc_model.specs.Items.{Item, Slots, Requests, First, Client, Open, Send, Call, Expire, Join, Fail, Hold, Drop, Sched, Tick, To, is_client, is_open, is_call, is_size, is_sched, is_turn, is_operation, mentioned}
use Rattle.brpc_model.specs.Operations.{slots_in, requests_in, first_in}
use Rattle.brpc_model.specs.LinePlaceFaults.{is_misplaced, is_too_many, is_same_size, with_names, names}
use Rattle.brpc_model.specs.Script.{is_unserved}
use Rattle.brpc_model.proofs.GrowingLineByLine.{fold_more, names_more}
use Rattle.script_lang.specs.declared.counts.Counts.{Counts}
use Rattle.script_lang.specs.CountedLines.{given, counts_of, counted, or_now, and_one, IsWithinLimits, is_given, stands_wrong, is_one_too_many}

-- ## How the counts grow

any_more : (p : Item → Bool) (before : List Item) (item : Item) → list_any p (before ++ item ∷ []) ≡ or_now (p item) (list_any p before)
any_more p before item = list_any-append p before (item ∷ []) ∙ or_now_is (list_any p before) (p item)
  where
    or_now_is : (a b : Bool) → (a || (b || false)) ≡ or_now b a
    or_now_is true true = refl
    or_now_is true false = refl
    or_now_is false true = refl
    or_now_is false false = refl

count_more : (p : Item → Bool) (before : List Item) (item : Item) → count_by p (before ++ item ∷ []) ≡ and_one (p item) (count_by p before)
count_more p before item = fold_more (λ a x. a + cond (p x) 1 0) 0 before item ∙ and_one_is (p item) (count_by p before)
  where
    and_one_is : (b : Bool) (n : ℕ) → n + cond b 1 0 ≡ and_one b n
    and_one_is true n = refl
    and_one_is false n = omega arith

-- a size is what the first line gives that gives one
first_cons : (one : Option ℕ) (more : List ℕ) → slice_get (cons_option one more) 0 ≡ option_or one (slice_get more 0)
first_cons None more = refl
first_cons (Some n) more = refl

given_more : (size : Item → Option ℕ) (before : List Item) (item : Item) → given size (before ++ item ∷ []) ≡ option_or (given size before) (size item)
given_more size [] item = alone (size item)
  where
    alone : (one : Option ℕ) → slice_get (cons_option one []) 0 ≡ one
    alone None = refl
    alone (Some n) = refl
given_more size (x ∷ xs) item =
    first_cons (size x) (filter_map size (xs ++ item ∷ [])) ∙ ap (option_or (size x)) (given_more size xs item)
    ∙ either (size x) (given size xs) (size item) ∙ ap (λ o. option_or o (size item)) (sym (first_cons (size x) (filter_map size xs)))
  where
    either : (a b c : Option ℕ) → option_or a (option_or b c) ≡ option_or (option_or a b) c
    either None b c = refl
    either (Some n) b c = refl

pub counts_more : (before : List Item) (item : Item) → counts_of (before ++ item ∷ []) ≡ counted (counts_of before) item
counts_more before item =
    let slots = given_more slots_in before item in
    let requests = given_more requests_in before item in
    let first = given_more first_in before item in
    let others = any_more (λ i. not (is_size i)) before item in
    let clients = count_more is_client before item in
    let links = count_more is_open before item in
    let operations = count_more is_operation before item in
    let calls = count_more is_call before item in
    let scheduled = any_more is_sched before item in
    let turns = count_more is_turn before item in
    let unserved = any_more is_unserved before item in
    rw (slots, requests, first, others, clients, links, operations, calls, scheduled, turns, unserved) refl

-- ## The next line

any_or : (p q r : Item → Bool) → ((i : Item) → r i ≡ q i) → (xs : List Item) → list_any (λ i. p i || r i) xs ≡ (list_any p xs || list_any q xs)
any_or p q r same [] = refl
any_or p q r same (x ∷ xs) =
    ap (λ b. (p x || b) || list_any (λ i. p i || r i) xs) (same x) ∙ ap (λ b. (p x || q x) || b) (any_or p q r same xs) ∙ crossed (p x) (q x) (list_any p xs) (list_any q xs)
  where
    crossed : (a b c d : Bool) → ((a || b) || (c || d)) ≡ ((a || c) || (b || d))
    crossed true b c d = refl
    crossed false true true d = refl
    crossed false true false d = refl
    crossed false false c d = refl

-- a size is given where a line gives it
given_some : (size : Item → Option ℕ) (xs : List Item) → list_any (λ i. is_some (size i)) xs ≡ is_some (given size xs)
given_some size [] = refl
given_some size (x ∷ xs) =
    ap (λ b. is_some (size x) || b) (given_some size xs) ∙ some_or (size x) (given size xs) ∙ ap is_some (sym (first_cons (size x) (filter_map size xs)))
  where
    some_or : (a b : Option ℕ) → (is_some a || is_some b) ≡ is_some (option_or a b)
    some_or None b = refl
    some_or (Some n) b = refl

same_slots : (n : ℕ) (i : Item) → is_same_size (Slots n) i ≡ is_some (slots_in i)
same_slots n (Slots m) = refl
same_slots n _ = refl

same_requests : (n : ℕ) (i : Item) → is_same_size (Requests n) i ≡ is_some (requests_in i)
same_requests n (Requests m) = refl
same_requests n _ = refl

same_first : (n : ℕ) (i : Item) → is_same_size (First n) i ≡ is_some (first_in i)
same_first n (First m) = refl
same_first n _ = refl

-- a size line behind another sort of line or given twice
sizes : (item : Item) (before : List Item) → (is_size item && list_any (λ i. not (is_size i) || is_same_size item i) before) ≡ (is_size item && ((counts_of before).others || is_given (counts_of before) item))
sizes (Slots n) before = any_or (λ i. not (is_size i)) (λ i. is_some (slots_in i)) (is_same_size (Slots n)) (same_slots n) before ∙ ap (λ b. (counts_of before).others || b) (given_some slots_in before)
sizes (Requests n) before = any_or (λ i. not (is_size i)) (λ i. is_some (requests_in i)) (is_same_size (Requests n)) (same_requests n) before ∙ ap (λ b. (counts_of before).others || b) (given_some requests_in before)
sizes (First n) before = any_or (λ i. not (is_size i)) (λ i. is_some (first_in i)) (is_same_size (First n)) (same_first n) before ∙ ap (λ b. (counts_of before).others || b) (given_some first_in before)
sizes _ before = refl

counts_some : (k : ℕ) (xs : List Item) → (nat_lt 0 k || list_any is_client xs) ≡ nat_lt 0 (fold (λ a x. a + cond (is_client x) 1 0) k xs)
counts_some k [] = or_false (nat_lt 0 k)
  where
    or_false : (b : Bool) → (b || false) ≡ b
    or_false true = refl
    or_false false = refl
counts_some k (x ∷ xs) = one_more (is_client x) k (list_any is_client xs) ∙ counts_some (k + cond (is_client x) 1 0) xs
  where
    or_true : (b c : Bool) → b ≡ true → (b || c) ≡ true
    or_true b c e = ap (λ d. d || c) e

    is_true : (b c : Bool) → (b || (true || c)) ≡ true
    is_true true c = refl
    is_true false c = refl

    positive : (k : ℕ) → nat_lt 0 (k + 1) ≡ true
    positive k = grind (arith, common_steps)

    one_more : (b : Bool) (k : ℕ) (c : Bool) → (nat_lt 0 k || (b || c)) ≡ (nat_lt 0 (k + cond b 1 0) || c)
    one_more true k c = is_true (nat_lt 0 k) c ∙ sym (or_true (nat_lt 0 (k + 1)) c (positive k))
    one_more false k c = let same : k ≡ k + 0 = omega arith in ap (λ n. nat_lt 0 n || c) same

pub wrong_place : (before : List Item) (item : Item) → is_misplaced before item ≡ stands_wrong (counts_of before) item
wrong_place before item =
    let c = counts_of before in
    let later = (is_operation item || is_client item || is_sched item) && c.scheduled in
    let earlier = is_turn item && not c.scheduled in
    ap (λ b. b || (is_operation item && not (is_open item) && not (list_any is_client before)) || later || earlier) (sizes item before)
    ∙ ap (λ b. (is_size item && (c.others || is_given c item)) || (is_operation item && not (is_open item) && not b) || later || earlier) (counts_some 0 before)

pub too_many : (before : List Item) (item : Item) → is_too_many before item ≡ (is_one_too_many (counts_of before) item || nat_lt 64 (length (with_names (names before) (mentioned item))))
too_many before item = ap (λ ns. is_one_too_many (counts_of before) item || nat_lt 64 (length ns)) (names_more before item)

-- ## The limits

none : (a b c d : Bool) → (a || b || c || d) ≡ false → (a ≡ false) × (b ≡ false) × (c ≡ false) × (d ≡ false)
none false false false false e = (refl, refl, refl, refl)
none true b c d e = absurd (cc)
none false true c d e = absurd (cc)
none false false true d e = absurd (cc)
none false false false true e = absurd (cc)

capped : (is : Bool) (n most : ℕ) → n ≤ most → (is && nat_le most n) ≡ false → and_one is n ≤ most
capped true n most h room = grind (arith, common_steps, room)
capped false n most h room = h

-- a call is an operation
pub call_is_operation : (item : Item) → is_call item ≡ true → is_operation item ≡ true
call_is_operation (Call call) e = refl
call_is_operation (Slots n) e = absurd (cc)
call_is_operation (Requests n) e = absurd (cc)
call_is_operation (First n) e = absurd (cc)
call_is_operation Client e = absurd (cc)
call_is_operation (Open name shape) e = absurd (cc)
call_is_operation (Send name bytes) e = absurd (cc)
call_is_operation (Expire client i) e = absurd (cc)
call_is_operation (Join client i) e = absurd (cc)
call_is_operation (Fail name c) e = absurd (cc)
call_is_operation (Hold name) e = absurd (cc)
call_is_operation (Drop name) e = absurd (cc)
call_is_operation Sched e = absurd (cc)
call_is_operation (Tick s n) e = absurd (cc)
call_is_operation (To s n) e = absurd (cc)

-- so there are no more of them
pub calls_few : (items : List Item) → count_by is_call items ≤ count_by is_operation items
calls_few [] = omega arith
calls_few (item ∷ items) =
    omega (
      arith,
      sum_by-cons (λ (x : Item). cond (is_call x) 1 0) item items,
      sum_by-cons (λ (x : Item). cond (is_operation x) 1 0) item items,
      by (is_operation item) (is_call item) (call_is_operation item),
      calls_few items,
    )
  where
    by : (o k : Bool) → (k ≡ true → o ≡ true) → cond {A = ℕ} k 1 0 ≤ cond {A = ℕ} o 1 0
    by true true h = omega arith
    by true false h = omega arith
    by false false h = omega arith
    by false true h = let e : false ≡ true = h refl in absurd (cc)

-- and one call more is one operation more
calls_capped : (c o : Bool) (n m : ℕ) → (c ≡ true → o ≡ true) → n ≤ m → and_one c n ≤ and_one o m
calls_capped true true n m h few = omega (arith, few)
calls_capped true false n m h few = let e : false ≡ true = h refl in absurd (cc)
calls_capped false true n m h few = omega (arith, few)
calls_capped false false n m h few = few

pub still_within : (c : Counts) (item : Item) → IsWithinLimits c → is_one_too_many c item ≡ false → IsWithinLimits (counted c item)
still_within c item h room =
    let each = none (is_client item && nat_le 31 c.clients) (is_open item && nat_le 31 c.links) (is_operation item && nat_le 4096 c.operations) (is_turn item && nat_le 4096 c.turns) room in
    record {
      clients = capped (is_client item) c.clients 31 h.clients each.0;
      links = capped (is_open item) c.links 31 h.links each.1;
      operations = capped (is_operation item) c.operations 4096 h.operations each.2;
      calls = calls_capped (is_call item) (is_operation item) c.calls c.operations (call_is_operation item) h.calls;
      turns = capped (is_turn item) c.turns 4096 h.turns each.3;
    }
