-- A printed script is read as the same script.
use Rattle.std.proofs.Common.{◌≡◌, ℕ, suc, ◌+◌, ◌%◌, ◌<◌, Bool, true, false, if◌then◌else◌, ◌&&◌, ◌||◌, not, nat_lt, ◌==◌, List, [], ◌∷◌, ◌++◌, length, fold, map, filter, filter_map, flat_map, position, slice_get, unwrap_or, Option, Some, None, IfOk, IfSome, Ok, Err, refl, ap, sym, subst, ◌∙◌, append-nil, arith, eqb-true, le-ltb}
use Rattle.std.specs.List.{list_any, position_or_len, cons_option}
use Rattle.std.specs.Str.Lines.{lines}
use Rattle.std.proofs.lemmas.Bool.{cond-true, cond-false, false≢true, true≢false, or_parts, or_from}
use Rattle.std.proofs.lemmas.List.Folds.{list_any-append}
use Rattle.std.proofs.lemmas.List.Elements.{filter-append, filter_map-append}
use Rattle.brpc_model.specs.Items.{Item, Slots, Requests, First, Expire, Join, Sched, is_size, is_sched, is_turn, is_join}
use Rattle.brpc_model.specs.Operations.{operations, slots_in, requests_in, first_in, size, slots, requests, first_version}
use Rattle.brpc_model.specs.Script.{Faulty, items, with_line, is_the_call, is_lost, is_unserved, may_hang, says, fault_at, whole, script_of}
use Rattle.brpc_model.specs.ScriptText.{scheduled, printed_items}
use Rattle.script_print.specs.ReadBack.{IsScript, IsSameScript, IsReadBack}
use Rattle.script_print.proofs.TokensReadAgain.{IsWithin}
use Rattle.script_print.proofs.Formed.{IsFormed}
use Rattle.script_print.specs.PrintedParts.{is_body}
use Rattle.script_print.proofs.ReorderedScriptLines.{by_test, other_cases, turn_cases, body_cases, any_filter, filter_twice, filter_again, clients_same, link_names_same, names_same, operations_same, unserved_same, schedule_same}
use Rattle.script_print.proofs.PlacedItems.{Stand, stand_append, More, lines_stand, lines_again, body_stand, turns_stand, sched_stands}
use Rattle.script_print.specs.PrintedParts.{line}
use Rattle.script_print.proofs.PrintedLines.{lines_printed}

-- ## Tests over what the lines say

-- no line says an item that passes
none_found : {A : Type 0} (p : A → Bool) (xs : List A) → list_any p xs ≡ false → position_or_len p xs ≡ length xs
none_found p [] e = refl
none_found p (x ∷ xs) e =
    let parts = or_parts (p x) (list_any p xs) e in
    let more = none_found p xs parts.1 in
    cond-true (not (p x)) (1 + position_or_len p xs) 0 (ap not parts.0) ∙ plus more
  where
    plus : position_or_len p xs ≡ length xs → 1 + position_or_len p xs ≡ suc (length xs)
    plus e = omega arith

no_position : {A : Type 0} (p : A → Bool) (xs : List A) → list_any p xs ≡ false → position p xs ≡ None
no_position p xs e =
    let at = none_found p xs e in
    cond-false (nat_lt (position_or_len p xs) (length xs)) (Some (position_or_len p xs)) None (le-ltb (position_or_len p xs) (length xs) (omega arith))

found_before : {A : Type 0} (p : A → Bool) (xs : List A) → list_any p xs ≡ true → position_or_len p xs < length xs
found_before p [] e = absurd (false≢true e)
found_before p (x ∷ xs) e = by_test (p x) (position_or_len p (x ∷ xs) < suc (length xs))
    (λ here. at_first (position_or_len p (x ∷ xs)) (cond-false (not (p x)) (1 + position_or_len p xs) 0 (ap not here)))
    (λ there. later (position_or_len p (x ∷ xs)) (cond-true (not (p x)) (1 + position_or_len p xs) 0 (ap not there)) (found_before p xs (sym (ap (λ t. t || list_any p xs) there) ∙ e)))
  where
    at_first : (n : ℕ) → n ≡ 0 → n < suc (length xs)
    at_first n e = omega arith

    later : (n : ℕ) → n ≡ 1 + position_or_len p xs → position_or_len p xs < length xs → n < suc (length xs)
    later n e h = omega arith

position_found : {A : Type 0} (p : A → Bool) (xs : List A) → position p xs ≡ None → list_any p xs ≡ false
position_found p xs e = by_test (list_any p xs) (list_any p xs ≡ false)
    (λ some. absurd (never (position_or_len p xs) (sym (cond-true (nat_lt (position_or_len p xs) (length xs)) (Some (position_or_len p xs)) None (lt_test (position_or_len p xs) (length xs) (found_before p xs some))) ∙ e)))
    (λ none. none)
  where
    never : (n : ℕ) → Some n ≡ None → ⊥
    never n d = cc

    lt_test : (m n : ℕ) → m < n → nat_lt m n ≡ true
    lt_test m n h = grind arith

any_said : (test : Item → Bool) (said : List (Option Item)) → list_any (says test) said ≡ list_any test (items said)
any_said test [] = refl
any_said test (None ∷ said) = any_said test said
any_said test (Some i ∷ said) = ap (λ t. test i || t) (any_said test said)

items_all : (is : List Item) → items (map (λ i. Some i) is) ≡ is
items_all [] = refl
items_all (i ∷ is) = ap (λ js. i ∷ js) (items_all is)

any_alike : {A : Type 0} (f g : A → Bool) → ((x : A) → f x ≡ g x) → (xs : List A) → list_any f xs ≡ list_any g xs
any_alike f g h [] = refl
any_alike f g h (x ∷ xs) = ap (λ t. t || list_any f xs) (h x) ∙ ap (λ t. g x || t) (any_alike f g h xs)

-- ## Kinds 10 and 11

-- items without a lost call and without a wait that may hang
pub record AreWhole (is : List Item) : Type 0 where
  pub found : list_any (is_lost is) is ≡ false
  pub served : list_any (may_hang is) is ≡ false

-- whether there is an answer, and the answer
abbrev is_good : Faulty (List Item) → Bool
is_good (Ok is) = true
is_good (Err f) = false

abbrev got : List Item → Faulty (List Item) → List Item
got none (Ok is) = is
got none (Err f) = none

no_fault : (first second : Option ℕ) (is js : List Item) → fault_at first 10 (fault_at second 11 (Ok is)) ≡ Ok js → (first ≡ None) × (second ≡ None) × (is ≡ js)
no_fault None None is js e = (refl, refl, ap (got is) e)
no_fault None (Some p) is js e = absurd (false≢true (ap is_good e))
no_fault (Some p) second is js e = absurd (false≢true (ap is_good e))

-- what bytes that are a script show of its items
pub record IsSound (is : List Item) : Type 0 where
  pub stand : Stand [] is
  pub whole_is : AreWhole is

sound_of : (r : Faulty (List (Option Item))) → IfOk r (More []) → (is : List Item) → whole r ≡ Ok is → IsSound is
sound_of (Err f) h is e = absurd (false≢true (ap is_good e))
sound_of (Ok said) h is e =
    let parts = no_fault (position (says (is_lost (items said))) said) (position (says (may_hang (items said))) said) (items said) is e in
    let lost = sym (any_said (is_lost (items said)) said) ∙ position_found (says (is_lost (items said))) said parts.0 in
    let hung = sym (any_said (may_hang (items said)) said) ∙ position_found (says (may_hang (items said))) said parts.1 in
    subst IsSound parts.2 (record { stand = subst (Stand []) (sym h.are) h.stand; whole_is = record { found = lost; served = hung } })

pub script_sound : (is : List Item) → IsScript is → IsSound is
script_sound is h = sound_of (fold with_line (Ok []) (lines h.0)) (lines_stand (lines h.0) []) is h.1

-- sound items in their lines are read as these items
pub lines_read : (is : List Item) → IsSound is → script_of (flat_map line is) ≡ Ok is
lines_read is h =
    let said = map (λ i. Some i) is in
    let are = items_all is in
    let lost : position (says (is_lost (items said))) said ≡ None = no_position (says (is_lost (items said))) said (any_said (is_lost (items said)) said ∙ ap (λ js. list_any (is_lost js) js) are ∙ h.whole_is.found) in
    let hung : position (says (may_hang (items said))) said ≡ None = no_position (says (may_hang (items said))) said (any_said (may_hang (items said)) said ∙ ap (λ js. list_any (may_hang js) js) are ∙ h.whole_is.served) in
    ap (λ ls. whole (fold with_line (Ok []) ls)) (lines_printed is [] h.stand)
    ∙ ap whole (lines_again is [] [] refl h.stand)
    ∙ ap (λ p. fault_at p 10 (fault_at (position (says (may_hang (items said))) said) 11 (Ok (items said)))) lost
    ∙ ap (λ p. fault_at p 11 (Ok (items said))) hung
    ∙ ap (λ js. Ok js) are

-- ## Sizes

-- the size that is given fits, where those of all items do
size_fits : (given : Item → Option ℕ) (P : ℕ → Type 0) (default : ℕ) → P default → ((b : List Item) (i : Item) → IsFormed b i → IfSome (given i) P) → (is b : List Item) → Stand b is → P (size given default is)
size_fits given P default d k [] b h = d
size_fits given P default d k (i ∷ is) b h = first (given i) (k b i h.0.formed) (size_fits given P default d k is (b ++ i ∷ []) h.1)
  where
    first : (o : Option ℕ) → IfSome o P → P (unwrap_or (slice_get (filter_map given is) 0) default) → P (unwrap_or (slice_get (cons_option o (filter_map given is)) 0) default)
    first None h more = more
    first (Some n) h more = h

slots_formed : (b : List Item) (i : Item) → IsFormed b i → IfSome (slots_in i) (IsWithin 1 31)
slots_formed b (Slots n) h = h
slots_formed b other h = tt

requests_formed : (b : List Item) (i : Item) → IsFormed b i → IfSome (requests_in i) (IsWithin 1 4096)
requests_formed b (Requests n) h = h
requests_formed b other h = tt

abbrev IsFirst : ℕ → Type 0
IsFirst v = IsWithin 0 4294967292 v × ((v % 2 == 0) ≡ true)

first_formed : (b : List Item) (i : Item) → IsFormed b i → IfSome (first_in i) IsFirst
first_formed b (First v) h = h
first_formed b other h = tt

-- the size lines, by the tests for their defaults
abbrev size_lines : Bool → Bool → Bool → ℕ → ℕ → ℕ → List Item
size_lines s r f slots requests first = (if s then [] else Slots slots ∷ []) ++ (if r then [] else Requests requests ∷ []) ++ (if f then [] else First first ∷ [])

sizes_stand : (s r f : Bool) (n m v : ℕ) → IsWithin 1 31 n → IsWithin 1 4096 m → IsFirst v → Stand [] (size_lines s r f n m v)
sizes_stand true true true n m v hn hm hv = tt
sizes_stand true true false n m v hn hm hv = (record { formed = hv; ordered = refl; few = refl; paired = refl }, tt)
sizes_stand true false true n m v hn hm hv = (record { formed = hm; ordered = refl; few = refl; paired = refl }, tt)
sizes_stand true false false n m v hn hm hv = (record { formed = hm; ordered = refl; few = refl; paired = refl }, (record { formed = hv; ordered = refl; few = refl; paired = refl }, tt))
sizes_stand false true true n m v hn hm hv = (record { formed = hn; ordered = refl; few = refl; paired = refl }, tt)
sizes_stand false true false n m v hn hm hv = (record { formed = hn; ordered = refl; few = refl; paired = refl }, (record { formed = hv; ordered = refl; few = refl; paired = refl }, tt))
sizes_stand false false true n m v hn hm hv = (record { formed = hn; ordered = refl; few = refl; paired = refl }, (record { formed = hm; ordered = refl; few = refl; paired = refl }, tt))
sizes_stand false false false n m v hn hm hv = (record { formed = hn; ordered = refl; few = refl; paired = refl }, (record { formed = hm; ordered = refl; few = refl; paired = refl }, (record { formed = hv; ordered = refl; few = refl; paired = refl }, tt)))

-- a test that no size line passes
unpicked : (p : Item → Bool) (default : Bool) (i : Item) → p i ≡ false → list_any p (if default then [] else i ∷ []) ≡ false
unpicked p true i e = refl
unpicked p false i e = or_from (p i) false e refl

dropped : (p : Item → Bool) (default : Bool) (i : Item) → p i ≡ false → filter p (if default then [] else i ∷ []) ≡ []
dropped p true i e = refl
dropped p false i e = cond-false (p i) (i ∷ []) [] e

no_size : (p : Item → Bool) → ((n : ℕ) → p (Slots n) ≡ false) → ((m : ℕ) → p (Requests m) ≡ false) → ((v : ℕ) → p (First v) ≡ false) → (s r f : Bool) (n m v : ℕ) → list_any p (size_lines s r f n m v) ≡ false
no_size p a b c s r f n m v =
    let one = if s then [] else Slots n ∷ [] in
    let two = if r then [] else Requests m ∷ [] in
    let three = if f then [] else First v ∷ [] in
    list_any-append p (one ++ two) three
    ∙ or_from (list_any p (one ++ two)) (list_any p three) (list_any-append p one two ∙ or_from (list_any p one) (list_any p two) (unpicked p s (Slots n) (a n)) (unpicked p r (Requests m) (b m))) (unpicked p f (First v) (c v))

no_sizes : (p : Item → Bool) → ((n : ℕ) → p (Slots n) ≡ false) → ((m : ℕ) → p (Requests m) ≡ false) → ((v : ℕ) → p (First v) ≡ false) → (s r f : Bool) (n m v : ℕ) → filter p (size_lines s r f n m v) ≡ []
no_sizes p a b c s r f n m v =
    let one = if s then [] else Slots n ∷ [] in
    let two = if r then [] else Requests m ∷ [] in
    let three = if f then [] else First v ∷ [] in
    filter-append p (one ++ two) three
    ∙ ap (λ xs. xs ++ filter p three) (filter-append p one two ∙ ap (λ xs. xs ++ filter p two) (dropped p s (Slots n) (a n)) ∙ dropped p r (Requests m) (b m))
    ∙ dropped p f (First v) (c v)

-- ## The printed items

-- the size lines of a script, its body and its schedule
abbrev sizes_of : List Item → List Item
sizes_of s = size_lines (slots s == 31) (requests s == 4096) (first_version s == 0) (slots s) (requests s) (first_version s)

sizes_body : (s : List Item) → filter is_body (sizes_of s) ≡ []
sizes_body s = no_sizes is_body (λ n. refl) (λ m. refl) (λ v. refl) (slots s == 31) (requests s == 4096) (first_version s == 0) (slots s) (requests s) (first_version s)

sizes_turn : (s : List Item) → filter is_turn (sizes_of s) ≡ []
sizes_turn s = no_sizes is_turn (λ n. refl) (λ m. refl) (λ v. refl) (slots s == 31) (requests s == 4096) (first_version s == 0) (slots s) (requests s) (first_version s)

sizes_sched : (s : List Item) → list_any is_sched (sizes_of s) ≡ false
sizes_sched s = no_size is_sched (λ n. refl) (λ m. refl) (λ v. refl) (slots s == 31) (requests s == 4096) (first_version s == 0) (slots s) (requests s) (first_version s)

-- nothing of the schedule stands in the body
no_sched : (is : List Item) → list_any is_sched (filter is_body is) ≡ false
no_sched [] = refl
no_sched (i ∷ is) = by_test (is_body i) (list_any is_sched (filter is_body (i ∷ is)) ≡ false)
    (λ body. ap (list_any is_sched) (cond-true (is_body i) (i ∷ filter is_body is) (filter is_body is) body) ∙ or_from (is_sched i) (list_any is_sched (filter is_body is)) (body_cases (λ j. is_sched j ≡ false) (λ j a b c. b) i body) (no_sched is))
    (λ other. ap (list_any is_sched) (cond-false (is_body i) (i ∷ filter is_body is) (filter is_body is) other) ∙ no_sched is)

no_turns : (is : List Item) → filter is_turn (filter is_body is) ≡ []
no_turns is = filter_twice is_turn is_body (body_cases (λ j. is_turn j ≡ false) (λ j a b c. c)) is

turns_no_body : (is : List Item) → filter is_body (filter is_turn is) ≡ []
turns_no_body is = filter_twice is_body is_turn (turn_cases (λ j. is_body j ≡ false) (λ s n. refl) (λ s k. refl)) is

scheduled_body : (turns : List Item) → filter is_body turns ≡ [] → filter is_body (scheduled turns) ≡ []
scheduled_body [] e = refl
scheduled_body (t ∷ turns) e = e

scheduled_turns : (turns : List Item) → filter is_turn (scheduled turns) ≡ filter is_turn turns
scheduled_turns [] = refl
scheduled_turns (t ∷ turns) = refl

-- the printed script has the same body, and the same schedule
pub printed_body : (s : List Item) → filter is_body (printed_items s) ≡ filter is_body s
printed_body s =
    let body = filter is_body s in
    filter-append is_body (sizes_of s ++ body) (scheduled (filter is_turn s))
    ∙ ap (λ xs. filter is_body (sizes_of s ++ body) ++ xs) (scheduled_body (filter is_turn s) (turns_no_body s))
    ∙ append-nil (filter is_body (sizes_of s ++ body))
    ∙ filter-append is_body (sizes_of s) body
    ∙ ap (λ xs. xs ++ filter is_body body) (sizes_body s)
    ∙ filter_again is_body s

pub printed_turns : (s : List Item) → filter is_turn (printed_items s) ≡ filter is_turn s
printed_turns s =
    let body = filter is_body s in
    filter-append is_turn (sizes_of s ++ body) (scheduled (filter is_turn s))
    ∙ ap (λ xs. xs ++ filter is_turn (scheduled (filter is_turn s))) (filter-append is_turn (sizes_of s) body ∙ ap (λ xs. xs ++ filter is_turn body) (sizes_turn s) ∙ no_turns s)
    ∙ scheduled_turns (filter is_turn s) ∙ filter_again is_turn s

schedule_stands : (before s : List Item) → Stand [] s → filter is_body before ≡ filter is_body s → filter is_turn before ≡ [] → list_any is_sched before ≡ false → Stand before (scheduled (filter is_turn s))
schedule_stands before s h body turns none = behind (filter is_turn s) (turns_stand s (before ++ Sched ∷ []) [] h with_sched (filter-append is_turn before (Sched ∷ []) ∙ ap (λ xs. xs ++ []) turns) begun)
  where
    with_sched : filter is_body (before ++ Sched ∷ []) ≡ filter is_body s
    with_sched = filter-append is_body before (Sched ∷ []) ∙ append-nil (filter is_body before) ∙ body

    begun : list_any is_sched (before ++ Sched ∷ []) ≡ true
    begun = list_any-append is_sched before (Sched ∷ []) ∙ ap (λ t. t || true) none

    behind : (turns : List Item) → Stand (before ++ Sched ∷ []) turns → Stand before (scheduled turns)
    behind [] k = tt
    behind (t ∷ turns) k = (sched_stands before s h body none, k)

printed_stand : (s : List Item) → Stand [] s → Stand [] (printed_items s)
printed_stand s h =
    let body = filter is_body s in
    let sizes : Stand [] (sizes_of s) =
    sizes_stand (slots s == 31) (requests s == 4096) (first_version s == 0) (slots s) (requests s) (first_version s)
    (size_fits slots_in (IsWithin 1 31) 31 (record { from = omega arith; to = omega arith }) slots_formed s [] h)
    (size_fits requests_in (IsWithin 1 4096) 4096 (record { from = omega arith; to = omega arith }) requests_formed s [] h)
    (size_fits first_in IsFirst 0 (record { from = omega arith; to = omega arith }, refl) first_formed s [] h) in
    let operations : Stand (sizes_of s) body = body_stand s (sizes_of s) [] h (sizes_body s) (sizes_sched s) in
    let front : Stand [] (sizes_of s ++ body) = stand_append [] (sizes_of s) body sizes operations in
    let front_body : filter is_body (sizes_of s ++ body) ≡ filter is_body s = filter-append is_body (sizes_of s) body ∙ ap (λ xs. xs ++ filter is_body body) (sizes_body s) ∙ filter_again is_body s in
    let front_turns : filter is_turn (sizes_of s ++ body) ≡ [] = filter-append is_turn (sizes_of s) body ∙ ap (λ xs. xs ++ filter is_turn body) (sizes_turn s) ∙ no_turns s in
    let front_sched : list_any is_sched (sizes_of s ++ body) ≡ false = list_any-append is_sched (sizes_of s) body ∙ or_from (list_any is_sched (sizes_of s)) (list_any is_sched body) (sizes_sched s) (no_sched s) in
    stand_append [] (sizes_of s ++ body) (scheduled (filter is_turn s)) front (schedule_stands (sizes_of s ++ body) s h front_body front_turns front_sched)

-- ### No fault over all lines

lost_same : (a b : List Item) → operations a ≡ operations b → (i : Item) → is_lost a i ≡ is_lost b i
lost_same a b e (Expire client number) = ap (λ ops. not (list_any (is_the_call client number) ops)) e
lost_same a b e (Join client number) = ap (λ ops. not (list_any (is_the_call client number) ops)) e
lost_same a b e other = refl

hang_same : (a b : List Item) → list_any is_unserved a ≡ list_any is_unserved b → (i : Item) → may_hang a i ≡ may_hang b i
hang_same a b e i = ap (λ t. is_join i && t) e

-- a test that only lines of the body pass
any_printed : (p : Item → Bool) → ((i : Item) → is_body i ≡ false → p i ≡ false) → (s : List Item) → list_any p (printed_items s) ≡ list_any p s
any_printed p h s = sym (any_filter p is_body h (printed_items s)) ∙ ap (list_any p) (printed_body s) ∙ any_filter p is_body h s

printed_whole : (s : List Item) → AreWhole s → AreWhole (printed_items s)
printed_whole s h =
    let p = printed_items s in
    record {
      found = any_alike (is_lost p) (is_lost s) (lost_same p s (operations_same p s (printed_body s))) p
          ∙ any_printed (is_lost s) (other_cases (λ i. is_lost s i ≡ false) (λ n. refl) (λ n. refl) (λ n. refl) refl (λ x n. refl) (λ x k. refl)) s ∙ h.found;
      served = any_alike (may_hang p) (may_hang s) (hang_same p s (unserved_same p s (printed_body s))) p
          ∙ any_printed (may_hang s) (other_cases (λ i. may_hang s i ≡ false) (λ n. refl) (λ n. refl) (λ n. refl) refl (λ x n. refl) (λ x k. refl)) s ∙ h.served;
    }

pub printed_sound : (s : List Item) → IsSound s → IsSound (printed_items s)
printed_sound s h = record { stand = printed_stand s h.stand; whole_is = printed_whole s h.whole_is }

-- ### The same sizes

-- what a size's lines give among the size lines
from_front : (given : Item → Option ℕ) → ((i : Item) → is_size i ≡ false → given i ≡ None) → (xs : List Item) → filter_map given (filter is_body xs) ≡ []
from_front given h [] = refl
from_front given h (i ∷ is) = by_test (is_body i) (filter_map given (filter is_body (i ∷ is)) ≡ [])
    (λ body. ap (filter_map given) (cond-true (is_body i) (i ∷ filter is_body is) (filter is_body is) body) ∙ ap (λ o. cons_option o (filter_map given (filter is_body is))) (h i (body_cases (λ j. is_size j ≡ false) (λ j a b c. a) i body)) ∙ from_front given h is)
    (λ other. ap (filter_map given) (cond-false (is_body i) (i ∷ filter is_body is) (filter is_body is) other) ∙ from_front given h is)

from_turns : (given : Item → Option ℕ) → ((i : Item) → is_size i ≡ false → given i ≡ None) → (xs : List Item) → filter_map given (filter is_turn xs) ≡ []
from_turns given h [] = refl
from_turns given h (i ∷ is) = by_test (is_turn i) (filter_map given (filter is_turn (i ∷ is)) ≡ [])
    (λ turn. ap (filter_map given) (cond-true (is_turn i) (i ∷ filter is_turn is) (filter is_turn is) turn) ∙ ap (λ o. cons_option o (filter_map given (filter is_turn is))) (h i (turn_cases (λ j. is_size j ≡ false) (λ s n. refl) (λ s k. refl) i turn)) ∙ from_turns given h is)
    (λ other. ap (filter_map given) (cond-false (is_turn i) (i ∷ filter is_turn is) (filter is_turn is) other) ∙ from_turns given h is)

from_schedule : (given : Item → Option ℕ) → ((i : Item) → is_size i ≡ false → given i ≡ None) → (turns : List Item) → filter_map given turns ≡ [] → filter_map given (scheduled turns) ≡ []
from_schedule given h [] e = refl
from_schedule given h (t ∷ turns) e = ap (λ o. cons_option o (filter_map given (t ∷ turns))) (h Sched refl) ∙ e

size_printed : (given : Item → Option ℕ) (default : ℕ) → ((i : Item) → is_size i ≡ false → given i ≡ None) → (s : List Item) → size given default (printed_items s) ≡ size given default (sizes_of s)
size_printed given default h s =
    ap (λ ns. unwrap_or (slice_get ns 0) default)
    (filter_map-append given (sizes_of s ++ filter is_body s) (scheduled (filter is_turn s))
    ∙ ap (λ xs. filter_map given (sizes_of s ++ filter is_body s) ++ xs) (from_schedule given h (filter is_turn s) (from_turns given h s))
    ∙ append-nil (filter_map given (sizes_of s ++ filter is_body s))
    ∙ filter_map-append given (sizes_of s) (filter is_body s)
    ∙ ap (λ xs. filter_map given (sizes_of s) ++ xs) (from_front given h s)
    ∙ append-nil (filter_map given (sizes_of s)))

slots_only : (i : Item) → is_size i ≡ false → slots_in i ≡ None
slots_only (Slots n) e = absurd (true≢false e)
slots_only other e = refl

requests_only : (i : Item) → is_size i ≡ false → requests_in i ≡ None
requests_only (Requests n) e = absurd (true≢false e)
requests_only other e = refl

first_only : (i : Item) → is_size i ≡ false → first_in i ≡ None
first_only (First n) e = absurd (true≢false e)
first_only other e = refl

-- each size stands in its line, or is the default where it has none
sizes_again : (s r f : Bool) (n m v : ℕ) → (s ≡ true → n ≡ 31) → (r ≡ true → m ≡ 4096) → (f ≡ true → v ≡ 0) →
    (size slots_in 31 (size_lines s r f n m v) ≡ n) × (size requests_in 4096 (size_lines s r f n m v) ≡ m) × (size first_in 0 (size_lines s r f n m v) ≡ v)
sizes_again true true true n m v a b c = (sym (a refl), sym (b refl), sym (c refl))
sizes_again true true false n m v a b c = (sym (a refl), sym (b refl), refl)
sizes_again true false true n m v a b c = (sym (a refl), refl, sym (c refl))
sizes_again true false false n m v a b c = (sym (a refl), refl, refl)
sizes_again false true true n m v a b c = (refl, sym (b refl), sym (c refl))
sizes_again false true false n m v a b c = (refl, sym (b refl), refl)
sizes_again false false true n m v a b c = (refl, refl, sym (c refl))
sizes_again false false false n m v a b c = (refl, refl, refl)

pub printed_same : (s : List Item) → IsSameScript (printed_items s) s
printed_same s =
    let p = printed_items s in
    let body = printed_body s in
    let sizes =
    sizes_again (slots s == 31) (requests s == 4096) (first_version s == 0) (slots s) (requests s) (first_version s) (eqb-true (slots s) 31) (eqb-true (requests s) 4096) (eqb-true (first_version s) 0) in
    record {
      operations_same = operations_same p s body;
      links_same = link_names_same p s body;
      clients_same = clients_same p s body;
      names_same = names_same p s body;
      sizes_same = (size_printed slots_in 31 slots_only s ∙ sizes.0, size_printed requests_in 4096 requests_only s ∙ sizes.1, size_printed first_in 0 first_only s ∙ sizes.2);
      schedule_same = schedule_same p s (printed_turns s);
    }

-- ## The law

pub sound_back : (s : List Item) → IsSound s → IsReadBack s
sound_back s h = record { read = lines_read (printed_items s) (printed_sound s h); same = printed_same s }

-- a script that was read is printed so that it is read again as the same script
pub read_back : (s : List Item) → IsScript s → IsReadBack s
read_back s h = sound_back s (script_sound s h)
