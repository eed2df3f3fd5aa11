-- A script carries half as many bytes as its text has, at most: each of them stands there as two digits.
use Rattle.std.proofs.Common.{◌≡◌, ℕ, zero, suc, ◌+◌, ◌-◌, ◌*◌, ◌%◌, ◌≤◌, ◌==◌, not, Bool, true, false, cond, List, [], ◌∷◌, ◌++◌, length, take, drop, map, filter, fold, position, Option, Some, None, Ok, Err, IfOk, IfSome, refl, sym, subst, arith, codes, bytes_eq}
use Rattle.std.specs.Prelude.{Result, nat_eq, slice_index}
use Rattle.std.specs.List.{list_all, slice_split, onto_first, starts_with, before_last, after_last}
use Rattle.std.specs.Str.Lines.{lines, lines_of_parts, strip_carriage_return}
use Rattle.hex.specs.Hex.{decode_of, decode_pairs}
use Rattle.hex.specs.declared.error.FromHexError.{FromHexError}
use Rattle.hex.specs.declared.error.FromHexError.TheVariants.{OddLength}
use Rattle.hex.proofs.HexLemmas.{decode_pairs-ok}
use Rattle.brpc_model.specs.LinePartReads.{Reads, ◌<*>◌, ◌>>=◌, option_in, values_of, are_known}
use Rattle.brpc_model.specs.Text.{number_in, name_in, hex_in, pairs_in, has_bytes, sized, words, service_in, method_in}
use Rattle.brpc_model.specs.Items.{Item, CallLine, Slots, Requests, First, Open, Client, Send, Call, Expire, Join, Fail, Hold, Drop, Sched, Tick, To}
use Rattle.brpc_model.specs.ScriptLineFaults.{line_item, item_of, is_text_byte, shape_in, alone, of_name, of_number, first_item, open_item, send_item, names_in, bodies_in, call_in, call_item, target_in, target_item, fail_item, seat_in, tick_item, kind_in, to_item}
use Rattle.brpc_model.specs.LinePlaceFaults.{at_its_place, is_misplaced, is_too_many, is_unpaired}
use Rattle.brpc_model.specs.Script.{Faulty, script_of, with_line, one_more, said_behind, items, whole, says, is_lost, may_hang}
use Rattle.brpc_model.proofs.GrowingLineByLine.{items_some, items_none}
use Rattle.served_calls.specs.served_runs.specs.Below.script_facts.proofs.ReadScriptFacts.{two_faults, either_way, of_then, one_part}
use Rattle.served_calls.specs.served_runs.specs.Below.script_facts.proofs.CallLines.{part_with}
use Rattle.served_sizes.specs.MessageBodySizes.{carried, all_carried}

-- ## Words

abbrev total : List (List ℕ) → ℕ
total [] = 0
total (w ∷ ws) = length w + total ws

onto_total : (x : ℕ) (parts : List (List ℕ)) → total (onto_first x parts) ≡ suc (total parts)
onto_total x [] = omega arith
onto_total x (part ∷ parts) = omega arith

split_total : (p : ℕ → Bool) (xs : List ℕ) → total (slice_split p xs) ≤ length xs
split_total p [] = omega arith
split_total p (x ∷ xs) = by_first (p x) (split_total p xs) (onto_total x (slice_split p xs))
  where
    by_first : (b : Bool) → total (slice_split p xs) ≤ length xs → total (onto_first x (slice_split p xs)) ≡ suc (total (slice_split p xs)) → total (cond b ([] ∷ slice_split p xs) (onto_first x (slice_split p xs))) ≤ suc (length xs)
    by_first true few more = omega (arith, few)
    by_first false few more = omega (arith, few, more)

filter_total : (p : List ℕ → Bool) (ws : List (List ℕ)) → total (filter p ws) ≤ total ws
filter_total p [] = omega arith
filter_total p (w ∷ ws) = by_first (p w) (filter_total p ws)
  where
    by_first : (b : Bool) → total (filter p ws) ≤ total ws → total (cond b (w ∷ filter p ws) (filter p ws)) ≤ length w + total ws
    by_first true few = omega (arith, few)
    by_first false few = omega (arith, few)

words_total : (line : List ℕ) → total (words line) ≤ length line
words_total line = let a = filter_total has_bytes (slice_split (λ b. b == 32) line) in let b = split_total (λ b. b == 32) line in omega (arith, a, b)

drop_short : (n : ℕ) (w : List ℕ) → length (drop n w) ≤ length w
drop_short zero w = omega arith
drop_short (suc n) [] = omega arith
drop_short (suc n) (b ∷ w) = let few = drop_short n w in omega (arith, few)

take_short : (n : ℕ) (w : List ℕ) → length (take n w) ≤ length w
take_short zero w = omega arith
take_short (suc n) [] = omega arith
take_short (suc n) (b ∷ w) = let few = take_short n w in omega (arith, few)

map_total : (n : ℕ) (ws : List (List ℕ)) → total (map (drop n) ws) ≤ total ws
map_total n [] = omega arith
map_total n (w ∷ ws) = let a = drop_short n w in let b = map_total n ws in omega (arith, a, b)

values_total : (key : List ℕ) (options : List (List ℕ)) → total (values_of key options) ≤ total options
values_total key options = let a = map_total (length key) (filter (λ w. starts_with nat_eq w key) options) in let b = filter_total (λ w. starts_with nat_eq w key) options in omega (arith, a, b)

strip_short : (l : List ℕ) → length (strip_carriage_return l) ≤ length l
strip_short l = by_last (slice_index l (length l - 1) == 13) (take_short (length l - 1) l)
  where
    by_last : (b : Bool) → length (take (length l - 1) l) ≤ length l → length (cond b (take (length l - 1) l) l) ≤ length l
    by_last true few = few
    by_last false few = omega arith

parts_total : (parts : List (List ℕ)) → total (lines_of_parts parts) ≤ total parts
parts_total [] = omega arith
parts_total (x ∷ []) = by_size (length x == 0)
  where
    by_size : (b : Bool) → total (cond b [] (x ∷ [])) ≤ total (x ∷ [])
    by_size true = omega arith
    by_size false = omega arith
parts_total (x ∷ y ∷ more) = let a = strip_short x in let b = parts_total (y ∷ more) in omega (arith, a, b)

lines_total : (bytes : List ℕ) → total (lines bytes) ≤ length bytes
lines_total bytes = let a = parts_total (slice_split (λ b. b == 10) bytes) in let b = split_total (λ b. b == 10) bytes in omega (arith, a, b)

-- ## Hexadecimal

abbrev Halves : ℕ → List ℕ → Type 0
Halves n bytes = 2 * length bytes ≤ n

pairs_halve : (w : List ℕ) (r : Result (List ℕ) FromHexError) → ((bytes : List ℕ) → r ≡ Ok bytes → Halves (length w) bytes) → IfOk (pairs_in r) (Halves (length w))
pairs_halve w (Ok bytes) h = h bytes refl
pairs_halve w (Err e) h = tt

decoded : (w bytes : List ℕ) → decode_of w ≡ Ok bytes → Halves (length w) bytes
decoded w bytes is = by_parity (length w % 2 == 1) is
  where
    by_parity : (b : Bool) → cond b (Err OddLength) (decode_pairs 0 w) ≡ Ok bytes → Halves (length w) bytes
    by_parity true e = absurd (let z : Err OddLength ≡ Ok bytes = e in cc)
    by_parity false e = let l = (decode_pairs-ok 0 w bytes e).1 in omega (arith, l)

hex_halves : (w : List ℕ) → IfOk (hex_in w) (Halves (length w))
hex_halves w = either_way (not (has_bytes w)) (Err 5) _ (Halves (length w)) tt (either_way (bytes_eq w (codes "-")) (Ok []) (pairs_in (decode_of w)) (Halves (length w)) (omega arith) (pairs_halve w (decode_of w) (decoded w)))

-- ## What a line of words carries

abbrev Fits : ℕ → Item → Type 0
Fits n item = 2 * carried item ≤ n

of_one : {A : Type 0} (make : A → Item) (r : Reads A) (n : ℕ) → ((a : A) → Fits n (make a)) → IfOk (Ok make <*> r) (Fits n)
of_one make (Ok a) n h = h a
of_one make (Err k) n h = tt

of_two : {A B : Type 0} (make : A → B → Item) (r : Reads A) (s : Reads B) (P : B → Type 0) (n : ℕ) → IfOk s P → ((a : A) (b : B) → P b → Fits n (make a b)) → IfOk (Ok make <*> r <*> s) (Fits n)
of_two make (Ok a) (Ok b) P n g h = h a b g
of_two make (Ok a) (Err k) P n g h = tt
of_two make (Err j) (Ok b) P n g h = tt
of_two make (Err j) (Err k) P n g h = tt

any_two : {A B : Type 0} (make : A → B → Item) (r : Reads A) (s : Reads B) (n : ℕ) → ((a : A) (b : B) → Fits n (make a b)) → IfOk (Ok make <*> r <*> s) (Fits n)
any_two make (Ok a) (Ok b) n h = h a b
any_two make (Ok a) (Err k) n h = tt
any_two make (Err j) (Ok b) n h = tt
any_two make (Err j) (Err k) n h = tt

then_any : {A B : Type 0} (r : Reads A) (f : A → Reads B) (Q : B → Type 0) → ((a : A) → IfOk (f a) Q) → IfOk (r >>= f) Q
then_any (Ok a) f Q g = g a
then_any (Err k) f Q g = tt

numbers_carry : (make : ℕ → Item) (low high : ℕ) (args : List (List ℕ)) (n : ℕ) → ((a : ℕ) → Fits n (make a)) → IfOk (of_number make low high args) (Fits n)
numbers_carry make low high [] n h = tt
numbers_carry make low high (w ∷ []) n h = of_one make (number_in low high w) n h
numbers_carry make low high (w ∷ v ∷ more) n h = tt

names_carry : (make : List ℕ → Item) (args : List (List ℕ)) (n : ℕ) → ((a : List ℕ) → Fits n (make a)) → IfOk (of_name make args) (Fits n)
names_carry make [] n h = tt
names_carry make (w ∷ []) n h = of_one make (name_in w) n h
names_carry make (w ∷ v ∷ more) n h = tt

first_carries : (args : List (List ℕ)) (n : ℕ) → IfOk (first_item args) (Fits n)
first_carries [] n = tt
first_carries (w ∷ []) n = then_any (number_in 0 4294967292 w) _ (Fits n) (λ v. either_way (v % 2 == 0) (Ok (First v)) (Err 4) (Fits n) (omega arith) tt)
first_carries (w ∷ v ∷ more) n = tt

open_carries : (args : List (List ℕ)) (n : ℕ) → IfOk (open_item args) (Fits n)
open_carries [] n = tt
open_carries (name ∷ options) n = any_two (λ m shape. Open m shape) (name_in name) (shape_in options) n (λ m shape. omega arith)

alone_carries : (item : Item) (args : List (List ℕ)) (n : ℕ) → Fits n item → IfOk (alone item args) (Fits n)
alone_carries item [] n h = h
alone_carries item (w ∷ more) n h = tt

sized_halves : (low high n : ℕ) (bytes : List ℕ) → Halves n bytes → IfOk (sized low high bytes) (Halves n)
sized_halves low high n bytes h = either_way _ (Ok bytes) (Err 6) (Halves n) h tt

send_carries : (args : List (List ℕ)) → IfOk (send_item args) (Fits (total args))
send_carries [] = tt
send_carries (name ∷ []) = tt
send_carries (name ∷ hex ∷ []) = of_two (λ m bytes. Send m bytes) (name_in name) (hex_in hex >>= sized 1 65536) (Halves (length hex)) (total (name ∷ hex ∷ []))
    (of_then (hex_in hex) (sized 1 65536) (Halves (length hex)) (Halves (length hex)) (hex_halves hex) (sized_halves 1 65536 (length hex))) (λ m bytes h. omega (arith, h))
send_carries (name ∷ hex ∷ w ∷ more) = tt

abbrev Both : ℕ → List ℕ × List ℕ → Type 0
Both n bodies = 2 * (length bodies.0 + length bodies.1) ≤ n

both_halve : (r s : Reads (List ℕ)) (m n : ℕ) → IfOk r (Halves m) → IfOk s (Halves n) → IfOk (Ok (λ p a. (p, a)) <*> r <*> s) (Both (m + n))
both_halve (Ok p) (Ok a) m n g h = omega (arith, g, h)
both_halve (Ok p) (Err k) m n g h = tt
both_halve (Err j) (Ok a) m n g h = tt
both_halve (Err j) (Err k) m n g h = tt

bodies_halve : (r : Reads (List ℕ × List ℕ)) (n : ℕ) → IfOk r (Both n) → IfOk (bodies_in r) (Both n)
bodies_halve (Ok bodies) n h = either_way _ (Ok bodies) (Err 6) (Both n) h tt
bodies_halve (Err k) n h = tt

option_halves : (values : List (List ℕ)) → IfOk (option_in hex_in [] values) (Halves (total values))
option_halves [] = omega arith
option_halves (w ∷ []) = let same : length w ≡ total (w ∷ []) = omega arith in subst (λ n. IfOk (hex_in w) (Halves n)) same (hex_halves w)
option_halves (w ∷ v ∷ more) = tt

more_halves : (r : Reads (List ℕ)) (m n : ℕ) → m ≤ n → IfOk r (Halves m) → IfOk r (Halves n)
more_halves (Ok bytes) m n le h = omega (arith, le, h)
more_halves (Err k) m n le h = tt

abbrev CallFits : ℕ → CallLine → Type 0
CallFits n call = 2 * (length call.payload + length call.attachment) ≤ n

abbrev make_call : List (List ℕ) → List ℕ → List ℕ → List ℕ × List ℕ → ℕ → CallLine
make_call ns s m bytes retry = record { names = ns; service = s; method = m; payload = bytes.0; attachment = bytes.1; retry = retry }

made_carries : (names : Reads (List (List ℕ))) (service method : Reads (List ℕ)) (bodies : Reads (List ℕ × List ℕ)) (retry : Reads ℕ) (n : ℕ) → IfOk bodies (Both n) → IfOk (Ok make_call <*> names <*> service <*> method <*> bodies <*> retry) (CallFits n)
made_carries names service method bodies retry n b =
    let Five : CallLine → Type 0 = λ call. CallFits n call in
    let Four : (ℕ → CallLine) → Type 0 = λ g. (e : ℕ) → CallFits n (g e) in
    let Three : (List ℕ × List ℕ → ℕ → CallLine) → Type 0 = λ g. (d : List ℕ × List ℕ) → Both n d → (e : ℕ) → CallFits n (g d e) in
    let Two : (List ℕ → List ℕ × List ℕ → ℕ → CallLine) → Type 0 = λ g. (c : List ℕ) (d : List ℕ × List ℕ) → Both n d → (e : ℕ) → CallFits n (g c d e) in
    let One : (List ℕ → List ℕ → List ℕ × List ℕ → ℕ → CallLine) → Type 0 = λ g. (s c : List ℕ) (d : List ℕ × List ℕ) → Both n d → (e : ℕ) → CallFits n (g s c d e) in
    one_part (Ok make_call <*> names <*> service <*> method <*> bodies) retry Five
    (part_with (Ok make_call <*> names <*> service <*> method) bodies (Both n) Four
    (one_part (Ok make_call <*> names <*> service) method Three
    (one_part (Ok make_call <*> names) service Two
    (one_part (Ok make_call) names One (λ ns s c d h e. h)))) b)

call_in_carries : (names method payload : List ℕ) (options : List (List ℕ)) → IfOk (call_in names method payload options) (CallFits (length payload + total options))
call_in_carries names method payload options = either_way (are_known (codes "att=" ∷ codes "retry=" ∷ []) [] options)
    (Ok make_call <*> names_in (slice_split (λ b. b == 44) names) <*> service_in (before_last (λ b. b == 46) method) <*> method_in (after_last (λ b. b == 46) method)
    <*> bodies_in (Ok (λ p a. (p, a)) <*> hex_in payload <*> option_in hex_in [] (values_of (codes "att=") options)) <*> option_in (number_in 0 6) 0 (values_of (codes "retry=") options))
    (Err 3) (CallFits (length payload + total options))
    (made_carries (names_in (slice_split (λ b. b == 44) names)) (service_in (before_last (λ b. b == 46) method)) (method_in (after_last (λ b. b == 46) method)) (bodies_in (Ok (λ p a. (p, a)) <*> hex_in payload <*> option_in hex_in [] (values_of (codes "att=") options)))
    (option_in (number_in 0 6) 0 (values_of (codes "retry=") options)) (length payload + total options)
    (bodies_halve (Ok (λ p a. (p, a)) <*> hex_in payload <*> option_in hex_in [] (values_of (codes "att=") options)) (length payload + total options)
    (both_halve (hex_in payload) (option_in hex_in [] (values_of (codes "att=") options)) (length payload) (total options) (hex_halves payload)
    (more_halves (option_in hex_in [] (values_of (codes "att=") options)) (total (values_of (codes "att=") options)) (total options) (values_total (codes "att=") options) (option_halves (values_of (codes "att=") options)))))) tt

of_call : (r : Reads CallLine) (m n : ℕ) → m ≤ n → IfOk r (CallFits m) → IfOk (Ok (λ call. Call call) <*> r) (Fits n)
of_call (Ok call) m n le h = omega (arith, le, h)
of_call (Err k) m n le h = tt

call_carries : (args : List (List ℕ)) → IfOk (call_item args) (Fits (total args))
call_carries [] = tt
call_carries (names ∷ []) = tt
call_carries (names ∷ method ∷ []) = tt
call_carries (names ∷ method ∷ payload ∷ options) = of_call (call_in names method payload options) (length payload + total options) (total (names ∷ method ∷ payload ∷ options)) (omega arith) (call_in_carries names method payload options)

target_in_carries : (make : ℕ → ℕ → Item) (parts : List (List ℕ)) (n : ℕ) → ((c i : ℕ) → Fits n (make c i)) → IfOk (target_in make parts) (Fits n)
target_in_carries make [] n h = tt
target_in_carries make (client ∷ []) n h = tt
target_in_carries make (client ∷ number ∷ []) n h = any_two make (number_in 0 18446744073709551615 client) (number_in 0 18446744073709551615 number) n h
target_in_carries make (client ∷ number ∷ w ∷ more) n h = tt

target_carries : (make : ℕ → ℕ → Item) (args : List (List ℕ)) (n : ℕ) → ((c i : ℕ) → Fits n (make c i)) → IfOk (target_item make args) (Fits n)
target_carries make [] n h = tt
target_carries make (target ∷ []) n h = target_in_carries make (slice_split (λ b. b == 46) target) n h
target_carries make (target ∷ w ∷ more) n h = tt

fail_carries : (args : List (List ℕ)) (n : ℕ) → IfOk (fail_item args) (Fits n)
fail_carries [] n = tt
fail_carries (name ∷ []) n = tt
fail_carries (name ∷ code ∷ []) n = any_two (λ m c. Fail m c) (name_in name) (number_in 1500 1999 code) n (λ m c. omega arith)
fail_carries (name ∷ code ∷ w ∷ more) n = tt

tick_carries : (before : List Item) (args : List (List ℕ)) (n : ℕ) → IfOk (tick_item before args) (Fits n)
tick_carries before [] n = tt
tick_carries before (seat ∷ []) n = tt
tick_carries before (seat ∷ w ∷ []) n = any_two (λ s t. Tick s t) (seat_in before seat) (number_in 1 65536 w) n (λ s t. omega arith)
tick_carries before (seat ∷ w ∷ v ∷ more) n = tt

to_carries : (before : List Item) (args : List (List ℕ)) (n : ℕ) → IfOk (to_item before args) (Fits n)
to_carries before [] n = tt
to_carries before (seat ∷ []) n = tt
to_carries before (seat ∷ kind ∷ []) n = any_two (λ s k. To s k) (seat_in before seat) (kind_in kind) n (λ s k. omega arith)
to_carries before (seat ∷ kind ∷ w ∷ more) n = tt

more_fits : (r : Reads Item) (m n : ℕ) → m ≤ n → IfOk r (Fits m) → IfOk r (Fits n)
more_fits (Ok item) m n le h = omega (arith, le, h)
more_fits (Err k) m n le h = tt

item_carries : (before : List Item) (ws : List (List ℕ)) → IfOk (item_of before ws) (Fits (total ws))
item_carries before [] = tt
item_carries before (first ∷ args) = let n : ℕ = total (first ∷ args) in
    either_way (bytes_eq first (codes "slots")) _ _ (Fits n) (numbers_carry (λ m. Slots m) 1 31 args n (λ a. omega arith)) (
    either_way (bytes_eq first (codes "requests")) _ _ (Fits n) (numbers_carry (λ m. Requests m) 1 4096 args n (λ a. omega arith)) (
    either_way (bytes_eq first (codes "first")) _ _ (Fits n) (first_carries args n) (
    either_way (bytes_eq first (codes "open")) _ _ (Fits n) (open_carries args n) (
    either_way (bytes_eq first (codes "client")) _ _ (Fits n) (alone_carries Client args n (omega arith)) (
    either_way (bytes_eq first (codes "send")) _ _ (Fits n) (more_fits (send_item args) (total args) n (omega arith) (send_carries args)) (
    either_way (bytes_eq first (codes "call")) _ _ (Fits n) (more_fits (call_item args) (total args) n (omega arith) (call_carries args)) (
    either_way (bytes_eq first (codes "expire")) _ _ (Fits n) (target_carries (λ c i. Expire c i) args n (λ c i. omega arith)) (
    either_way (bytes_eq first (codes "join")) _ _ (Fits n) (target_carries (λ c i. Join c i) args n (λ c i. omega arith)) (
    either_way (bytes_eq first (codes "fail")) _ _ (Fits n) (fail_carries args n) (
    either_way (bytes_eq first (codes "hold")) _ _ (Fits n) (names_carry (λ m. Hold m) args n (λ a. omega arith)) (
    either_way (bytes_eq first (codes "drop")) _ _ (Fits n) (names_carry (λ m. Drop m) args n (λ a. omega arith)) (
    either_way (bytes_eq first (codes "sched")) _ _ (Fits n) (alone_carries Sched args n (omega arith)) (
    either_way (bytes_eq first (codes "tick")) _ _ (Fits n) (tick_carries before args n) (
    either_way (bytes_eq first (codes "to")) _ _ (Fits n) (to_carries before args n) tt))))))))))))))

-- ## Line by line

abbrev SaysFits : ℕ → Option Item → Type 0
SaysFits n said = IfSome said (Fits n)

says_some : (r : Reads Item) (m n : ℕ) → m ≤ n → IfOk r (Fits m) → IfOk (Ok (λ i. Some i) <*> r) (SaysFits n)
says_some (Ok item) m n le h = omega (arith, le, h)
says_some (Err k) m n le h = tt

line_carries : (before : List Item) (line : List ℕ) → IfOk (line_item before line) (SaysFits (length line))
line_carries before [] = tt
line_carries before (b ∷ bytes) = let n : ℕ = length (b ∷ bytes) in
    either_way (b == 35) (Ok None) _ (SaysFits n) tt (either_way (not (list_all is_text_byte (b ∷ bytes))) (Err 1) _ (SaysFits n) tt
    (says_some (item_of before (words (b ∷ bytes))) (total (words (b ∷ bytes))) n (words_total (b ∷ bytes)) (item_carries before (words (b ∷ bytes)))))

placed_carries : (before : List Item) (said : Option Item) (n : ℕ) → SaysFits n said → IfOk (at_its_place before said) (SaysFits n)
placed_carries before None n h = tt
placed_carries before (Some item) n h =
    either_way (is_misplaced before item) (Err 8) _ (SaysFits n) tt (either_way (is_too_many before item) (Err 9) _ (SaysFits n) tt (either_way (is_unpaired before item) (Err 12) (Ok (Some item)) (SaysFits n) tt h))

said_carries : (before : List Item) (line : List ℕ) → IfOk (said_behind before line) (SaysFits (length line))
said_carries before line = of_then (line_item before line) (at_its_place before) (SaysFits (length line)) (SaysFits (length line)) (line_carries before line) (λ said h. placed_carries before said (length line) h)

carried_more : (before : List Item) (item : Item) → all_carried (before ++ item ∷ []) ≡ all_carried before + carried item
carried_more [] item = omega arith
carried_more (i ∷ before) item = let rest = carried_more before item in omega (arith, rest)

abbrev AllFit : ℕ → List (Option Item) → Type 0
AllFit n said = 2 * all_carried (items said) ≤ n

one_line : (said : List (Option Item)) (r : Reads (Option Item)) (m n : ℕ) → AllFit m said → IfOk r (SaysFits n) → IfOk (one_more said r) (AllFit (m + n))
one_line said (Err k) m n h g = tt
one_line said (Ok None) m n h g = subst (λ (is : List Item). 2 * all_carried is ≤ m + n) (sym (items_none said)) (omega (arith, h))
one_line said (Ok (Some i)) m n h g = subst (λ (is : List Item). 2 * all_carried is ≤ m + n) (sym (items_some said i)) (let more = carried_more (items said) i in omega (arith, h, g, more))

all_lines : (r : Faulty (List (Option Item))) (ls : List (List ℕ)) (m n : ℕ) → m + total ls ≤ n → IfOk r (AllFit m) → IfOk (fold with_line r ls) (AllFit n)
all_lines (Ok said) [] m n le h = omega (arith, le, h)
all_lines (Err fault) [] m n le h = tt
all_lines (Ok said) (line ∷ ls) m n le h = all_lines (one_more said (said_behind (items said) line)) ls (m + length line) n (omega (arith, le)) (one_line said (said_behind (items said) line) m (length line) h (said_carries (items said) line))
all_lines (Err fault) (line ∷ ls) m n le h = all_lines (Err fault) ls (m + length line) n (omega (arith, le)) tt

whole_fits : (r : Faulty (List (Option Item))) (script : List Item) (n : ℕ) → IfOk r (AllFit n) → whole r ≡ Ok script → 2 * all_carried script ≤ n
whole_fits (Err fault) script n h e = absurd (cc)
whole_fits (Ok said) script n h e = subst (λ (is : List Item). 2 * all_carried is ≤ n) (two_faults (position (says (is_lost (items said))) said) (position (says (may_hang (items said))) said) script (items said) e) h

-- what a script carries stands in its text, two digits a byte
pub carried_few : (bytes : List ℕ) (script : List Item) → script_of bytes ≡ Ok script → 2 * all_carried script ≤ length bytes
carried_few bytes script e = let l = lines_total bytes in whole_fits (fold with_line (Ok []) (lines bytes)) script (length bytes) (all_lines (Ok []) (lines bytes) 0 (length bytes) (omega (arith, l)) (omega arith)) e
