-- What each script has that was read: a proof line by line.
use Rattle.std.proofs.Common.{◌≡◌, ℕ, ◌≤◌, ◌%◌, ◌==◌, ◌<◌, nat_lt, Bool, true, false, not, List, [], ◌∷◌, ◌++◌, length, fold, position, Option, Some, None, Ok, Err, IfOk, IfSome, if◌then◌else◌, refl, sym, subst, append_assoc, append-nil, arith, codes, bytes_eq}
use Rattle.std.proofs.lemmas.Grind.{common_steps}
use Rattle.std.specs.List.{list_all, slice_split}
use Rattle.std.specs.Str.Lines.{lines}
use Rattle.brpc_model.specs.LinePartReads.{Reads, ◌<*>◌, ◌>>=◌, option_in, values_of}
use Rattle.brpc_model.specs.Text.{number_in, name_in, hex_in, sized, words}
use Rattle.brpc_model.specs.Items.{Item, Slots, Requests, First, Open, Client, Send, Call, Expire, Join, Fail, Hold, Drop, Sched, Tick, To, Shape}
use Rattle.brpc_model.specs.ScriptLineFaults.{line_item, item_of, is_text_byte, shape_in, alone, of_name, of_number, first_item, open_item, send_item, call_in, call_item, target_in, target_item, fail_item, seat_in, tick_item, kind_in, to_item}
use Rattle.brpc_model.specs.LinePlaceFaults.{at_its_place, is_misplaced, is_too_many, is_unpaired}
use Rattle.brpc_model.specs.Script.{Faulty, script_of, with_line, one_more, said_behind, items, whole, fault_at, says, is_lost, may_hang}
use Rattle.brpc_model.proofs.GrowingLineByLine.{items_some, items_none}
use Rattle.script_facts.proofs.CallLines.{CallInRange, call_range}

-- ## The numbers of a line

-- the numbers of an item are in their ranges, and a message has 1 to 65,536 bytes
abbrev pub InRange : Item → Type 0
InRange (Slots n) = (1 ≤ n) × (n ≤ 31)
InRange (Requests n) = (1 ≤ n) × (n ≤ 4096)
InRange (First v) = (v ≤ 4294967292) × (v % 2 ≡ 0)
InRange (Open name shape) = nat_lt 0 shape.piece ≡ true
InRange (Send name bytes) = (1 ≤ length bytes) × (length bytes ≤ 65536)
InRange (Fail name code) = (1500 ≤ code) × (code ≤ 1999)
InRange (Call call) = CallInRange call
InRange other = Unit {0}

abbrev ReadsRange : Reads Item → Type 0
ReadsRange read = IfOk read InRange

by_test : {A : Type 0} (b : Bool) (x y : Reads A) (P : A → Type 0) → (b ≡ true → IfOk x P) → (b ≡ false → IfOk y P) → IfOk (if b then x else y) P
by_test true x y P g h = g refl
by_test false x y P g h = h refl

of_one : {A : Type 0} (make : A → Item) (r : Reads A) (P : A → Type 0) → IfOk r P → ((a : A) → P a → InRange (make a)) → ReadsRange (Ok make <*> r)
of_one make (Ok a) P g h = h a g
of_one make (Err k) P g h = tt

of_two : {A B : Type 0} (make : A → B → Item) (r : Reads A) (s : Reads B) (P : B → Type 0) → IfOk s P → ((a : A) (b : B) → P b → InRange (make a b)) → ReadsRange (Ok make <*> r <*> s)
of_two make (Ok a) (Ok b) P g h = h a b g
of_two make (Ok a) (Err k) P g h = tt
of_two make (Err j) (Ok b) P g h = tt
of_two make (Err j) (Err k) P g h = tt

pub of_then : {A B : Type 0} (r : Reads A) (f : A → Reads B) (P : A → Type 0) (Q : B → Type 0) → IfOk r P → ((a : A) → P a → IfOk (f a) Q) → IfOk (r >>= f) Q
of_then (Ok a) f P Q h g = g a h
of_then (Err k) f P Q h g = tt

anything : {A : Type 0} (r : Reads A) → IfOk r (λ a. Unit {0})
anything (Ok a) = tt
anything (Err k) = tt

number_range : (low high : ℕ) (w : List ℕ) → IfOk (number_in low high w) (λ n. (low ≤ n) × (n ≤ high))
number_range low high w = grind (arith, common_steps)

number_reads : (make : ℕ → Item) (low high : ℕ) (args : List (List ℕ)) → ((n : ℕ) → (low ≤ n) × (n ≤ high) → InRange (make n)) → ReadsRange (of_number make low high args)
number_reads make low high [] h = tt
number_reads make low high (n ∷ []) h = of_one make (number_in low high n) (λ n. (low ≤ n) × (n ≤ high)) (number_range low high n) h
number_reads make low high (n ∷ m ∷ more) h = tt

name_reads : (make : List ℕ → Item) (args : List (List ℕ)) → ((n : List ℕ) → InRange (make n)) → ReadsRange (of_name make args)
name_reads make [] h = tt
name_reads make (n ∷ []) h = of_one make (name_in n) (λ n. Unit {0}) (anything (name_in n)) (λ n t. h n)
name_reads make (n ∷ m ∷ more) h = tt

first_reads : (args : List (List ℕ)) → ReadsRange (first_item args)
first_reads [] = tt
first_reads (n ∷ []) = of_then (number_in 0 4294967292 n) _ (λ v. (0 ≤ v) × (v ≤ 4294967292)) InRange (number_range 0 4294967292 n)
    (λ v h. by_test (v % 2 == 0) (Ok (First v)) (Err 4) InRange (λ e. (h.1, grind (arith, common_steps, e))) (λ e. tt))
first_reads (n ∷ m ∷ more) = tt

pub either_way : {A : Type 0} (b : Bool) (x y : Reads A) (P : A → Type 0) → IfOk x P → IfOk y P → IfOk (if b then x else y) P
either_way true x y P g h = g
either_way false x y P g h = h

-- one part more, of which what is read doesn't depend
pub one_part : {A B : Type 0} (f : Reads (A → B)) (r : Reads A) (Q : B → Type 0) → IfOk f (λ g. (a : A) → Q (g a)) → IfOk (f <*> r) Q
one_part (Ok g) (Ok a) Q h = h a
one_part (Ok g) (Err k) Q h = tt
one_part (Err j) (Ok a) Q h = tt
one_part (Err j) (Err k) Q h = tt

first_part : {A B : Type 0} (f : A → B) (r : Reads A) (P : A → Type 0) (Q : B → Type 0) → IfOk r P → ((a : A) → P a → Q (f a)) → IfOk (Ok f <*> r) Q
first_part f (Ok a) P Q h g = g a h
first_part f (Err k) P Q h g = tt

some_number : (low high : ℕ) (w : List ℕ) → 0 < low → IfOk (number_in low high w) (λ n. nat_lt 0 n ≡ true)
some_number low high w h = grind (arith, common_steps)

some_piece : (values : List (List ℕ)) → IfOk (option_in (number_in 1 65536) 65536 values) (λ n. nat_lt 0 n ≡ true)
some_piece [] = refl
some_piece (w ∷ []) = some_number 1 65536 w (omega arith)
some_piece (w ∷ v ∷ more) = tt

-- a shape whose first part isn't 0, whatever the others are
some_shape : (piece again fail : Reads ℕ) (ending : Reads (Option ℕ)) (serve : Reads Bool) → IfOk piece (λ n. nat_lt 0 n ≡ true) →
    IfOk (Ok (λ p a f e s. record { piece = p; again = a; fail = f; serve = s; «end» = e }) <*> piece <*> again <*> fail <*> ending <*> serve) (λ (shape : Shape). nat_lt 0 shape.piece ≡ true)
some_shape piece again fail ending serve h =
    let make : ℕ → ℕ → ℕ → Option ℕ → Bool → Shape = λ p a f e s. record { piece = p; again = a; fail = f; serve = s; «end» = e } in
    let one : IfOk (Ok make <*> piece) (λ g. (a f : ℕ) (e : Option ℕ) (s : Bool) → nat_lt 0 (g a f e s).piece ≡ true) =
    first_part make piece (λ n. nat_lt 0 n ≡ true) (λ g. (a f : ℕ) (e : Option ℕ) (s : Bool) → nat_lt 0 (g a f e s).piece ≡ true) h (λ p q a f e s. q) in
    let two : IfOk (Ok make <*> piece <*> again) (λ g. (f : ℕ) (e : Option ℕ) (s : Bool) → nat_lt 0 (g f e s).piece ≡ true) =
    one_part (Ok make <*> piece) again (λ g. (f : ℕ) (e : Option ℕ) (s : Bool) → nat_lt 0 (g f e s).piece ≡ true) one in
    let three : IfOk (Ok make <*> piece <*> again <*> fail) (λ g. (e : Option ℕ) (s : Bool) → nat_lt 0 (g e s).piece ≡ true) =
    one_part (Ok make <*> piece <*> again) fail (λ g. (e : Option ℕ) (s : Bool) → nat_lt 0 (g e s).piece ≡ true) two in
    let four : IfOk (Ok make <*> piece <*> again <*> fail <*> ending) (λ g. (s : Bool) → nat_lt 0 (g s).piece ≡ true) =
    one_part (Ok make <*> piece <*> again <*> fail) ending (λ g. (s : Bool) → nat_lt 0 (g s).piece ≡ true) three in
    one_part (Ok make <*> piece <*> again <*> fail <*> ending) serve (λ (shape : Shape). nat_lt 0 shape.piece ≡ true) four

shape_has : (options : List (List ℕ)) → IfOk (shape_in options) (λ shape. nat_lt 0 shape.piece ≡ true)
shape_has options = either_way _ _ (Err 3) (λ (shape : Shape). nat_lt 0 shape.piece ≡ true) (some_shape _ _ _ _ _ (some_piece (values_of (codes "piece=") options))) tt

open_reads : (args : List (List ℕ)) → ReadsRange (open_item args)
open_reads [] = tt
open_reads (name ∷ options) = of_two (λ n shape. Open n shape) (name_in name) (shape_in options) (λ shape. nat_lt 0 shape.piece ≡ true) (shape_has options) (λ n s h. h)

alone_reads : (item : Item) (args : List (List ℕ)) → InRange item → ReadsRange (alone item args)
alone_reads item [] h = h
alone_reads item (w ∷ more) h = tt

sized_range : (low high : ℕ) (bytes : List ℕ) → IfOk (sized low high bytes) (λ b. (low ≤ length b) × (length b ≤ high))
sized_range low high bytes = grind (arith, common_steps)

message_range : (hex : List ℕ) → IfOk (hex_in hex >>= sized 1 65536) (λ b. (1 ≤ length b) × (length b ≤ 65536))
message_range hex = of_then (hex_in hex) (sized 1 65536) (λ b. Unit {0}) (λ b. (1 ≤ length b) × (length b ≤ 65536)) (anything (hex_in hex)) (λ b t. sized_range 1 65536 b)

send_reads : (args : List (List ℕ)) → ReadsRange (send_item args)
send_reads [] = tt
send_reads (name ∷ []) = tt
send_reads (name ∷ hex ∷ []) = of_two (λ n bytes. Send n bytes) (name_in name) (hex_in hex >>= sized 1 65536) (λ b. (1 ≤ length b) × (length b ≤ 65536)) (message_range hex) (λ n b h. h)
send_reads (name ∷ hex ∷ w ∷ more) = tt

call_reads : (args : List (List ℕ)) → ReadsRange (call_item args)
call_reads [] = tt
call_reads (names ∷ []) = tt
call_reads (names ∷ method ∷ []) = tt
call_reads (names ∷ method ∷ payload ∷ options) = of_one (λ call. Call call) (call_in names method payload options) CallInRange (call_range names method payload options) (λ c h. h)

target_in_reads : (make : ℕ → ℕ → Item) (parts : List (List ℕ)) → ((c i : ℕ) → InRange (make c i)) → ReadsRange (target_in make parts)
target_in_reads make [] h = tt
target_in_reads make (client ∷ []) h = tt
target_in_reads make (client ∷ number ∷ []) h = of_two make (number_in 0 18446744073709551615 client) (number_in 0 18446744073709551615 number) (λ n. Unit {0}) (anything (number_in 0 18446744073709551615 number)) (λ c i t. h c i)
target_in_reads make (client ∷ number ∷ w ∷ more) h = tt

target_reads : (make : ℕ → ℕ → Item) (args : List (List ℕ)) → ((c i : ℕ) → InRange (make c i)) → ReadsRange (target_item make args)
target_reads make [] h = tt
target_reads make (target ∷ []) h = target_in_reads make (slice_split (λ b. b == 46) target) h
target_reads make (target ∷ w ∷ more) h = tt

fail_reads : (args : List (List ℕ)) → ReadsRange (fail_item args)
fail_reads [] = tt
fail_reads (name ∷ []) = tt
fail_reads (name ∷ code ∷ []) = of_two (λ n c. Fail n c) (name_in name) (number_in 1500 1999 code) (λ n. (1500 ≤ n) × (n ≤ 1999)) (number_range 1500 1999 code) (λ n c h. h)
fail_reads (name ∷ code ∷ w ∷ more) = tt

tick_reads : (before : List Item) (args : List (List ℕ)) → ReadsRange (tick_item before args)
tick_reads before [] = tt
tick_reads before (seat ∷ []) = tt
tick_reads before (seat ∷ n ∷ []) = of_two (λ s t. Tick s t) (seat_in before seat) (number_in 1 65536 n) (λ n. Unit {0}) (anything (number_in 1 65536 n)) (λ s t u. tt)
tick_reads before (seat ∷ n ∷ w ∷ more) = tt

to_reads : (before : List Item) (args : List (List ℕ)) → ReadsRange (to_item before args)
to_reads before [] = tt
to_reads before (seat ∷ []) = tt
to_reads before (seat ∷ kind ∷ []) = of_two (λ s k. To s k) (seat_in before seat) (kind_in kind) (λ k. Unit {0}) (anything (kind_in kind)) (λ s k t. tt)
to_reads before (seat ∷ kind ∷ w ∷ more) = tt

item_reads : (before : List Item) (line : List (List ℕ)) → ReadsRange (item_of before line)
item_reads before [] = tt
item_reads before (first ∷ args) =
    by_test (bytes_eq first (codes "slots")) _ _ InRange (λ e. number_reads (λ n. Slots n) 1 31 args (λ n h. h)) (λ e.
    by_test (bytes_eq first (codes "requests")) _ _ InRange (λ e. number_reads (λ n. Requests n) 1 4096 args (λ n h. h)) (λ e.
    by_test (bytes_eq first (codes "first")) _ _ InRange (λ e. first_reads args) (λ e.
    by_test (bytes_eq first (codes "open")) _ _ InRange (λ e. open_reads args) (λ e.
    by_test (bytes_eq first (codes "client")) _ _ InRange (λ e. alone_reads Client args tt) (λ e.
    by_test (bytes_eq first (codes "send")) _ _ InRange (λ e. send_reads args) (λ e.
    by_test (bytes_eq first (codes "call")) _ _ InRange (λ e. call_reads args) (λ e.
    by_test (bytes_eq first (codes "expire")) _ _ InRange (λ e. target_reads (λ c i. Expire c i) args (λ c i. tt)) (λ e.
    by_test (bytes_eq first (codes "join")) _ _ InRange (λ e. target_reads (λ c i. Join c i) args (λ c i. tt)) (λ e.
    by_test (bytes_eq first (codes "fail")) _ _ InRange (λ e. fail_reads args) (λ e.
    by_test (bytes_eq first (codes "hold")) _ _ InRange (λ e. name_reads (λ n. Hold n) args (λ n. tt)) (λ e.
    by_test (bytes_eq first (codes "drop")) _ _ InRange (λ e. name_reads (λ n. Drop n) args (λ n. tt)) (λ e.
    by_test (bytes_eq first (codes "sched")) _ _ InRange (λ e. alone_reads Sched args tt) (λ e.
    by_test (bytes_eq first (codes "tick")) _ _ InRange (λ e. tick_reads before args) (λ e.
    by_test (bytes_eq first (codes "to")) _ _ InRange (λ e. to_reads before args) (λ e. tt)))))))))))))))

says_some : (r : Reads Item) → ReadsRange r → IfOk (Ok (λ i. Some i) <*> r) (λ said. IfSome said InRange)
says_some (Ok i) h = h
says_some (Err k) h = tt

line_reads : (before : List Item) (line : List ℕ) → IfOk (line_item before line) (λ said. IfSome said InRange)
line_reads before [] = tt
line_reads before (b ∷ bytes) =
    by_test (b == 35) (Ok None) _ (λ said. IfSome said InRange) (λ e. tt) (λ e.
    by_test (not (list_all is_text_byte (b ∷ bytes))) (Err 1) _ (λ said. IfSome said InRange) (λ f. tt) (λ f. says_some (item_of before (words (b ∷ bytes))) (item_reads before (words (b ∷ bytes)))))

-- ## At its place

-- the item may stand behind these
pub record IsPlaced (before : List Item) (item : Item) : Type 0 where
  pub in_range : InRange item
  pub placed : is_misplaced before item ≡ false
  pub few : is_too_many before item ≡ false
  pub paired : is_unpaired before item ≡ false

abbrev SaysPlaced : List Item → Option Item → Type 0
SaysPlaced before said = IfSome said (IsPlaced before)

placed_says : (before : List Item) (said : Option Item) → IfSome said InRange → IfOk (at_its_place before said) (SaysPlaced before)
placed_says before None h = tt
placed_says before (Some item) h =
    by_test (is_misplaced before item) (Err 8) _ (SaysPlaced before) (λ e. tt) (λ e.
    by_test (is_too_many before item) (Err 9) _ (SaysPlaced before) (λ f. tt) (λ f.
    by_test (is_unpaired before item) (Err 12) (Ok (Some item)) (SaysPlaced before) (λ g. tt) (λ g. record { in_range = h; placed = e; few = f; paired = g })))

said_placed : (before : List Item) (line : List ℕ) → IfOk (said_behind before line) (SaysPlaced before)
said_placed before line = of_then (line_item before line) (at_its_place before) (λ said. IfSome said InRange) (SaysPlaced before) (line_reads before line) (placed_says before)

-- ## Over all lines

module _ (P : List Item → Type 0) (more : (before : List Item) (item : Item) → P before → IsPlaced before item → P (before ++ item ∷ [])) where
  one_line : (said : List (Option Item)) (r : Reads (Option Item)) → P (items said) → IfOk r (SaysPlaced (items said)) → IfOk (one_more said r) (λ s. P (items s))
  one_line said (Err k) h g = tt
  one_line said (Ok None) h g = subst P (sym (items_none said)) h
  one_line said (Ok (Some i)) h g = subst P (sym (items_some said i)) (more (items said) i h g)

  all_lines : (r : Faulty (List (Option Item))) (lines : List (List ℕ)) → IfOk r (λ s. P (items s)) → IfOk (fold with_line r lines) (λ s. P (items s))
  all_lines r [] h = h
  all_lines (Ok said) (line ∷ lines) h = all_lines (one_more said (said_behind (items said) line)) lines (one_line said (said_behind (items said) line) h (said_placed (items said) line))
  all_lines (Err fault) (line ∷ lines) h = all_lines (Err fault) lines tt

pub two_faults : (one two : Option ℕ) (script all : List Item) → fault_at one 10 (fault_at two 11 (Ok all)) ≡ Ok script → all ≡ script
two_faults None None script all e = let f : Ok all ≡ Ok script = e in cc
two_faults None (Some place) script all e = absurd (cc)
two_faults (Some place) two script all e = absurd (cc)

whole_has : (P : List Item → Type 0) (r : Faulty (List (Option Item))) (script : List Item) → IfOk r (λ s. P (items s)) → whole r ≡ Ok script → P script
whole_has P (Err fault) script h e = absurd (cc)
whole_has P (Ok said) script h e = subst P (two_faults (position (says (is_lost (items said))) said) (position (says (may_hang (items said))) said) script (items said) e) h

-- what holds of no lines, and then of one more at its place, holds of each script
pub by_lines : (P : List Item → Type 0) → P [] → ((before : List Item) (item : Item) → P before → IsPlaced before item → P (before ++ item ∷ [])) →
    (bytes : List ℕ) (script : List Item) → script_of bytes ≡ Ok script → P script
by_lines P none more bytes script e = whole_has P (fold with_line (Ok []) (lines bytes)) script (all_lines P more (Ok []) (lines bytes) none) e

-- ## From the front

-- each of these items stands at its place behind those before it
abbrev pub ArePlaced : List Item → List Item → Type 0
ArePlaced before [] = Unit {0}
ArePlaced before (item ∷ items) = IsPlaced before item × ArePlaced (before ++ item ∷ []) items

placed_more : (before items : List Item) (item : Item) → ArePlaced before items → IsPlaced (before ++ items) item → ArePlaced before (items ++ item ∷ [])
placed_more before [] item h g = (let P : List Item → Type 0 = λ x. IsPlaced x item in subst P (append-nil before) g, tt)
placed_more before (i ∷ items) item h g = (h.0, placed_more (before ++ i ∷ []) items item h.1 (let P : List Item → Type 0 = λ x. IsPlaced x item in subst P (sym (append_assoc before (i ∷ []) items)) g))

pub are_placed : (bytes : List ℕ) (script : List Item) → script_of bytes ≡ Ok script → ArePlaced [] script
are_placed bytes script e = by_lines (ArePlaced []) tt (λ before item h g. placed_more [] before item h g) bytes script e
