-- The generated script is a script, and is printed as it is.
use Rattle.std.proofs.Common.{subst₂, suc-mul, ◌≡◌, ℕ, zero, suc, ◌+◌, ◌*◌, ◌%◌, ◌<◌, ◌≤◌, Bool, true, false, cond, if◌then◌else◌, ◌&&◌, ◌||◌, not, nat_lt, nat_le, ◌==◌, List, [], ◌∷◌, ◌++◌, length, map, filter, filter_map, count_by, codes, slice_get, unwrap_or, Option, None, Ok, Err, refl, ap, sym, subst, ◌∙◌, append_assoc, append-nil, arith, le-leb, inl, inr}
use Rattle.std.specs.List.{list_any, list_all, cons_option}
use Rattle.std.proofs.lemmas.Bool.{and_parts, and_from, and_left, and_right, or_from, or_left, or_right, cond-true, cond-false, cond_both, false≢true, lt-leb}
use Rattle.std.proofs.lemmas.List.Folds.{list_any-append, list_all-append}
use Rattle.hex.specs.Hex.{IsBytes}
use Rattle.brpc_model.specs.Text.{is_name_byte}
use Rattle.brpc_model.specs.Items.{Item, Shape, Slots, Requests, First, Open, Client, Send, Call, Expire, Join, Fail, Hold, Drop, Sched, Tick, To, is_client, is_open, is_size, is_sched, is_turn, is_operation, mentioned}
use Rattle.brpc_model.specs.LinePlaceFaults.{names, with_names, is_same_size, is_unpaired}
use Rattle.brpc_model.specs.Operations.{slots, requests, first_version, slots_in, requests_in, first_in}
use Rattle.brpc_model.specs.Script.{script_of, is_lost, may_hang}
use Rattle.brpc_model.specs.ScriptText.{script_text, printed_items, unless_default, scheduled}
use Rattle.brpc_model.specs.DrawnSeatsAndScripts.{drawn_state, draws, state_behind, shaped, setup, call_of, gen_item, gen_size, gen_operations, gen_draws, gen_clients, generated}
use Rattle.brpc_model.proofs.GrowingLineByLine.{fold_more, names_more}
use Rattle.script_print.specs.PrintedParts.{is_body}
use Rattle.script_print.proofs.Spaced.{all_kept, all_implied}
use Rattle.script_print.proofs.TokensReadAgain.{IsSpelled, none_bytes}
use Rattle.script_print.proofs.PartLemmas.{IsName, IsOption}
use Rattle.script_print.proofs.Shapes.{IsShape}
use Rattle.script_print.proofs.Formed.{IsFormed, IsMessage}
use Rattle.script_print.proofs.PlacedItems.{Stands, Stand, stand_append, of_order}
use Rattle.script_print.proofs.PrintedScriptReadAgain.{AreWhole, IsSound, sound_back}

-- ## Its items

-- what a generated script has: links, clients, sends and calls
abbrev is_drawn : Item → Bool
is_drawn (Open name shape) = true
is_drawn Client = true
is_drawn (Send name bytes) = true
is_drawn (Call call) = true
is_drawn other = false

drawn_operation : (j : ℕ) (bytes : List ℕ) → is_drawn (gen_item j bytes) ≡ true
drawn_operation j bytes =
    cond_both (j % 4 == 1) (Send (codes "a") bytes) (if j % 4 == 2 then Send (codes "b") bytes else if j % 4 == 3 then call_of (codes "c") (codes "Echo") bytes 0 else call_of (codes "d") (codes "Reverse") bytes 1) (λ i. is_drawn i ≡ true) (λ e. refl)
    (λ e. cond_both (j % 4 == 2) (Send (codes "b") bytes) (if j % 4 == 3 then call_of (codes "c") (codes "Echo") bytes 0 else call_of (codes "d") (codes "Reverse") bytes 1) (λ i. is_drawn i ≡ true) (λ e. refl)
    (λ e. cond_both (j % 4 == 3) (call_of (codes "c") (codes "Echo") bytes 0) (call_of (codes "d") (codes "Reverse") bytes 1) (λ i. is_drawn i ≡ true) (λ e. refl) (λ e. refl)))

drawn_operations : (more c j x : ℕ) → list_all is_drawn (gen_operations more c j x) ≡ true
drawn_operations zero c j x = refl
drawn_operations (suc more) c j x =
    and_from (is_drawn (gen_item j (map (λ d. d % 256) (draws (gen_size c j) x)))) (list_all is_drawn (gen_operations more c (j + 1) (state_behind (gen_size c j) x))) (drawn_operation j (map (λ d. d % 256) (draws (gen_size c j) x))) (drawn_operations more c (j + 1) (state_behind (gen_size c j) x))

drawn_clients : (more c ops x : ℕ) → list_all is_drawn (gen_clients more c ops x) ≡ true
drawn_clients zero c ops x = refl
drawn_clients (suc more) c ops x =
    let rest = gen_clients more (c + 1) ops (state_behind (gen_draws ops c 1) x) in
    list_all-append is_drawn (Client ∷ gen_operations ops c 1 x) rest ∙ and_from (list_all is_drawn (gen_operations ops c 1 x)) (list_all is_drawn rest) (drawn_operations ops c 1 x) (drawn_clients more (c + 1) ops (state_behind (gen_draws ops c 1) x))

drawn_all : (seed clients ops : ℕ) → list_all is_drawn (generated seed clients ops) ≡ true
drawn_all seed clients ops = list_all-append is_drawn setup (gen_clients clients 1 ops seed) ∙ drawn_clients clients 1 ops seed

-- what holds of such items
drawn_cases : (P : Item → Type 0) → ((n : List ℕ) (s : Shape) → P (Open n s)) → P Client → ((n b : List ℕ) → P (Send n b)) → ((c : _) → P (Call c)) → (i : Item) → is_drawn i ≡ true → P i
drawn_cases P o c s k (Open n shape) e = o n shape
drawn_cases P o c s k Client e = c
drawn_cases P o c s k (Send n b) e = s n b
drawn_cases P o c s k (Call call) e = k call
drawn_cases P o c s k (Slots n) e = absurd (false≢true e)
drawn_cases P o c s k (Requests n) e = absurd (false≢true e)
drawn_cases P o c s k (First v) e = absurd (false≢true e)
drawn_cases P o c s k (Expire a b) e = absurd (false≢true e)
drawn_cases P o c s k (Join a b) e = absurd (false≢true e)
drawn_cases P o c s k (Fail n code) e = absurd (false≢true e)
drawn_cases P o c s k (Hold n) e = absurd (false≢true e)
drawn_cases P o c s k (Drop n) e = absurd (false≢true e)
drawn_cases P o c s k Sched e = absurd (false≢true e)
drawn_cases P o c s k (Tick seat n) e = absurd (false≢true e)
drawn_cases P o c s k (To seat n) e = absurd (false≢true e)

none_pass : (p : Item → Bool) → ((i : Item) → is_drawn i ≡ true → p i ≡ false) → (is : List Item) → list_all is_drawn is ≡ true → list_any p is ≡ false
none_pass p h [] e = refl
none_pass p h (i ∷ is) e =
    let parts = and_parts (is_drawn i) (list_all is_drawn is) e in
    or_from (p i) (list_any p is) (h i parts.0) (none_pass p h is parts.1)

none_kept : (p : Item → Bool) → ((i : Item) → is_drawn i ≡ true → p i ≡ false) → (is : List Item) → list_all is_drawn is ≡ true → filter p is ≡ []
none_kept p h [] e = refl
none_kept p h (i ∷ is) e =
    let parts = and_parts (is_drawn i) (list_all is_drawn is) e in
    cond-false (p i) (i ∷ filter p is) (filter p is) (h i parts.0) ∙ none_kept p h is parts.1

none_given : (given : Item → Option ℕ) → ((i : Item) → is_drawn i ≡ true → given i ≡ None) → (is : List Item) → list_all is_drawn is ≡ true → filter_map given is ≡ []
none_given given h [] e = refl
none_given given h (i ∷ is) e =
    let parts = and_parts (is_drawn i) (list_all is_drawn is) e in
    ap (λ o. cons_option o (filter_map given is)) (h i parts.0) ∙ none_given given h is parts.1

-- such items are printed as they are
printed_as_is : (is : List Item) → list_all is_drawn is ≡ true → printed_items is ≡ is
printed_as_is is e =
    let sizes = λ (n m v : ℕ). unless_default 31 n (Slots n) ++ unless_default 4096 m (Requests m) ++ unless_default 0 v (First v) in
    let by_slots : slots is ≡ 31 = ap (λ ns. unwrap_or (slice_get ns 0) 31) (none_given slots_in (drawn_cases (λ i. slots_in i ≡ None) (λ n s. refl) refl (λ n b. refl) (λ c. refl)) is e) in
    let by_requests : requests is ≡ 4096 = ap (λ ns. unwrap_or (slice_get ns 0) 4096) (none_given requests_in (drawn_cases (λ i. requests_in i ≡ None) (λ n s. refl) refl (λ n b. refl) (λ c. refl)) is e) in
    let by_first : first_version is ≡ 0 = ap (λ ns. unwrap_or (slice_get ns 0) 0) (none_given first_in (drawn_cases (λ i. first_in i ≡ None) (λ n s. refl) refl (λ n b. refl) (λ c. refl)) is e) in
    let body : filter is_body is ≡ is = all_kept is_body is (all_implied is_drawn is_body (drawn_cases (λ i. is_body i ≡ true) (λ n s. refl) refl (λ n b. refl) (λ c. refl)) is e) in
    let turns : filter is_turn is ≡ [] = none_kept is_turn (drawn_cases (λ i. is_turn i ≡ false) (λ n s. refl) refl (λ n b. refl) (λ c. refl)) is e in
    ap (λ n. sizes n (requests is) (first_version is) ++ filter is_body is ++ scheduled (filter is_turn is)) by_slots
    ∙ ap (λ m. sizes 31 m (first_version is) ++ filter is_body is ++ scheduled (filter is_turn is)) by_requests
    ∙ ap (λ v. sizes 31 4096 v ++ filter is_body is ++ scheduled (filter is_turn is)) by_first
    ∙ ap (λ b. b ++ scheduled (filter is_turn is)) body
    ∙ ap (λ t. is ++ scheduled t) turns
    ∙ append-nil is

whole_as_is : (is : List Item) → list_all is_drawn is ≡ true → AreWhole is
whole_as_is is e = record {
  found = none_pass (is_lost is) (drawn_cases (λ i. is_lost is i ≡ false) (λ n s. refl) refl (λ n b. refl) (λ c. refl)) is e;
  served = none_pass (may_hang is) (drawn_cases (λ i. may_hang is i ≡ false) (λ n s. refl) refl (λ n b. refl) (λ c. refl)) is e;
}

-- ## Where they stand

-- the four names, in the order of first mention
abbrev four : List (List ℕ)
four = codes "a" ∷ codes "b" ∷ codes "c" ∷ codes "d" ∷ []

-- what the items before an operation or a client have
record Ready (before : List Item) (clients operations : ℕ) : Type 0 where
  quiet : list_any is_sched before ≡ false
  named : names before ≡ four
  clients_are : count_by is_client before ≡ clients
  operations_are : count_by is_operation before ≡ operations

-- an operation that may stand in a client behind these names
record IsMade (i : Item) : Type 0 where
  formed : (before : List Item) → IsFormed before i
  acts : is_operation i ≡ true
  opens : is_open i ≡ false
  begins : is_client i ≡ false
  gives : is_size i ≡ false
  schedules : is_sched i ≡ false
  turns : is_turn i ≡ false
  known : with_names four (mentioned i) ≡ four
  paired : (before : List Item) → is_unpaired before i ≡ false

-- the name of a method
abbrev IsMethod : List ℕ → Type 0
IsMethod w = IsSpelled is_name_byte 64 w

drawn_bytes : (n x : ℕ) → IsBytes (map (λ d. d % 256) (draws n x))
drawn_bytes zero x i = omega arith
drawn_bytes (suc n) x zero = omega arith
drawn_bytes (suc n) x (suc i) = drawn_bytes n (drawn_state x) i

drawn_length : (n x : ℕ) → length (map (λ d. d % 256) (draws n x)) ≡ n
drawn_length zero x = refl
drawn_length (suc n) x = ap (λ k. suc k) (drawn_length n (drawn_state x))

message_of : (bytes : List ℕ) → IsBytes bytes → 1 ≤ length bytes → length bytes ≤ 64 → IsMessage bytes
message_of bytes h low high = record {
  bytes_are = h;
  long = cond-true (nat_le 1 (length bytes) && nat_le (length bytes) 65536) (Ok bytes) (Err 6) (and_from (nat_le 1 (length bytes)) (nat_le (length bytes) 65536) (le-leb 1 (length bytes) low) (le-leb (length bytes) 65536 (omega arith)));
}

made_send : (name bytes : List ℕ) → IsName name → with_names four (name ∷ []) ≡ four → IsMessage bytes → IsMade (Send name bytes)
made_send name bytes hn known hb = record { formed = λ before. (hn, hb); acts = refl; opens = refl; begins = refl; gives = refl; schedules = refl; turns = refl; known = known; paired = λ before. refl }

made_call : (name method bytes : List ℕ) (retry : ℕ) → IsName name → with_names four (name ∷ []) ≡ four → IsMethod method → IsBytes bytes → length bytes ≤ 64 → retry ≤ 1 → IsMade (call_of name method bytes retry)
made_call name method bytes retry hn known hm hb long few = record {
  formed = λ before. record {
    names_are = hn;
    service_is = record { reads = refl; bytes = refl; one = refl };
    method_is = hm;
    bodies_are = record { bytes = hb; more = none_bytes; long = le-leb (length bytes + 0) 65280 (omega arith) };
    retry_in = inr (record { from = omega arith; to = omega arith });
  };
  acts = refl;
  opens = refl;
  begins = refl;
  gives = refl;
  schedules = refl;
  turns = refl;
  known = known;
  paired = λ before. refl;
}

made : (j c x : ℕ) → IsMade (gen_item j (map (λ d. d % 256) (draws (gen_size c j) x)))
made j c x =
    let n = gen_size c j in
    let bytes = map (λ d. d % 256) (draws n x) in
    let are : IsBytes bytes = drawn_bytes n x in
    let long : length bytes ≡ n = drawn_length n x in
    let high : length bytes ≤ 64 = omega arith in
    let message : IsMessage bytes = message_of bytes are (omega arith) high in
    cond_both (j % 4 == 1) (Send (codes "a") bytes) (if j % 4 == 2 then Send (codes "b") bytes else if j % 4 == 3 then call_of (codes "c") (codes "Echo") bytes 0 else call_of (codes "d") (codes "Reverse") bytes 1) IsMade
    (λ e. made_send (codes "a") bytes (record { reads = refl; bytes = refl; one = refl }) refl message)
    (λ e. cond_both (j % 4 == 2) (Send (codes "b") bytes) (if j % 4 == 3 then call_of (codes "c") (codes "Echo") bytes 0 else call_of (codes "d") (codes "Reverse") bytes 1) IsMade
    (λ e. made_send (codes "b") bytes (record { reads = refl; bytes = refl; one = refl }) refl message)
    (λ e. cond_both (j % 4 == 3) (call_of (codes "c") (codes "Echo") bytes 0) (call_of (codes "d") (codes "Reverse") bytes 1) IsMade
    (λ e. made_call (codes "c") (codes "Echo") bytes 0 (record { reads = refl; bytes = refl; one = refl }) refl (record { reads = refl; bytes = refl; one = refl }) are high (omega arith))
    (λ e. made_call (codes "d") (codes "Reverse") bytes 1 (record { reads = refl; bytes = refl; one = refl }) refl (record { reads = refl; bytes = refl; one = refl }) are high (omega arith))))

-- ### One more item

counted_more : (p : Item → Bool) (before : List Item) (i : Item) → count_by p (before ++ i ∷ []) ≡ count_by p before + cond (p i) 1 0
counted_more p before i = fold_more (λ n j. n + cond (p j) 1 0) 0 before i

counted_one : (p : Item → Bool) (before : List Item) (i : Item) (n : ℕ) → count_by p before ≡ n → p i ≡ true → count_by p (before ++ i ∷ []) ≡ n + 1
counted_one p before i n e passes = counted_more p before i ∙ ap (λ t. count_by p before + cond t 1 0) passes ∙ ap (λ m. m + 1) e

counted_none : (p : Item → Bool) (before : List Item) (i : Item) (n : ℕ) → count_by p before ≡ n → p i ≡ false → count_by p (before ++ i ∷ []) ≡ n
counted_none p before i n e fails = counted_more p before i ∙ ap (λ t. count_by p before + cond t 1 0) fails ∙ plain (count_by p before) ∙ e
  where
    plain : (m : ℕ) → m + 0 ≡ m
    plain m = omega arith

still_quiet : (before : List Item) (i : Item) → list_any is_sched before ≡ false → is_sched i ≡ false → list_any is_sched (before ++ i ∷ []) ≡ false
still_quiet before i e fails = list_any-append is_sched before (i ∷ []) ∙ or_from (list_any is_sched before) (is_sched i || false) e (or_from (is_sched i) false fails refl)

still_named : (before : List Item) (i : Item) → names before ≡ four → with_names four (mentioned i) ≡ four → names (before ++ i ∷ []) ≡ four
still_named before i e known = names_more before i ∙ ap (λ ns. with_names ns (mentioned i)) e ∙ known

few_names : (before : List Item) (i : Item) → names (before ++ i ∷ []) ≡ four → nat_lt 64 (length (names (before ++ i ∷ []))) ≡ false
few_names before i e = ap (λ ns. nat_lt 64 (length ns)) e

client_stands : (before : List Item) (cs ops : ℕ) → Ready before cs ops → cs < 31 → Stands before Client
client_stands before cs ops h low =
    let room : nat_le 31 (count_by is_client before) ≡ false = ap (nat_le 31) h.clients_are ∙ lt-leb 31 cs low in
    record {
      formed = tt;
      ordered = or_from (list_any is_sched before) false h.quiet refl;
      few = or_from (nat_le 31 (count_by is_client before) || false || false || false) (nat_lt 64 (length (names (before ++ Client ∷ []))))
          (or_from (nat_le 31 (count_by is_client before) || false || false) false (or_from (nat_le 31 (count_by is_client before) || false) false (or_from (nat_le 31 (count_by is_client before)) false room refl) refl) refl)
          (few_names before Client (still_named before Client h.named refl));
      paired = refl;
    }

client_ready : (before : List Item) (cs ops : ℕ) → Ready before cs ops → Ready (before ++ Client ∷ []) (cs + 1) ops
client_ready before cs ops h = record {
  quiet = still_quiet before Client h.quiet refl;
  named = still_named before Client h.named refl;
  clients_are = counted_one is_client before Client cs h.clients_are refl;
  operations_are = counted_none is_operation before Client ops h.operations_are refl;
}

made_stands : (before : List Item) (cs ops : ℕ) (i : Item) → Ready before cs ops → list_any is_client before ≡ true → ops < 4096 → IsMade i → Stands before i
made_stands before cs ops i h begun low m =
    let room : nat_le 4096 (count_by is_operation before) ≡ false = ap (nat_le 4096) h.operations_are ∙ lt-leb 4096 ops low in
    let client = and_left (is_client i) (nat_le 31 (count_by is_client before)) m.begins in
    let opened = and_left (is_open i) (nat_le 31 (count_by is_open before)) m.opens in
    let operation = and_right (is_operation i) (nat_le 4096 (count_by is_operation before)) room in
    let turn = and_left (is_turn i) (nat_le 4096 (count_by is_turn before)) m.turns in
    let c = is_client i && nat_le 31 (count_by is_client before) in
    let o = is_open i && nat_le 31 (count_by is_open before) in
    let p = is_operation i && nat_le 4096 (count_by is_operation before) in
    let t = is_turn i && nat_le 4096 (count_by is_turn before) in
    record {
      formed = m.formed before;
      ordered = of_order before i (record {
        sized = and_left (is_size i) (list_any (λ j. not (is_size j) || is_same_size i j) before) m.gives;
        begun = and_right (is_operation i && not (is_open i)) (not (list_any is_client before)) (ap not begun);
        early = and_right (is_operation i || is_client i || is_sched i) (list_any is_sched before) h.quiet;
        late = and_left (is_turn i) (not (list_any is_sched before)) m.turns;
      });
      few = or_from (c || o || p || t) (nat_lt 64 (length (names (before ++ i ∷ [])))) (or_from (c || o || p) t (or_from (c || o) p (or_from c o client opened) operation) turn) (few_names before i (still_named before i h.named m.known));
      paired = m.paired before;
    }

made_ready : (before : List Item) (cs ops : ℕ) (i : Item) → Ready before cs ops → IsMade i → Ready (before ++ i ∷ []) cs (ops + 1)
made_ready before cs ops i h m = record {
  quiet = still_quiet before i h.quiet m.schedules;
  named = still_named before i h.named m.known;
  clients_are = counted_none is_client before i cs h.clients_are m.begins;
  operations_are = counted_one is_operation before i ops h.operations_are m.acts;
}

-- ### All of them

-- items stand behind others, and these others may stand behind both
record Goes (before is : List Item) (clients operations : ℕ) : Type 0 where
  stand : Stand before is
  ready : Ready (before ++ is) clients operations

begun_more : (before is : List Item) → list_any is_client before ≡ true → list_any is_client (before ++ is) ≡ true
begun_more before is e = list_any-append is_client before is ∙ or_left (list_any is_client before) (list_any is_client is) e

operations_go : (more c j x : ℕ) (before : List Item) (cs n : ℕ) → Ready before cs n → list_any is_client before ≡ true → n + more ≤ 4096 → Goes before (gen_operations more c j x) cs (n + more)
operations_go zero c j x before cs n h begun room =
    let same : n + 0 ≡ n = omega arith in
    record { stand = tt; ready = subst₂ (λ b k. Ready b cs k) (sym (append-nil before)) (sym same) h }
operations_go (suc more) c j x before cs n h begun room =
    let i = gen_item j (map (λ d. d % 256) (draws (gen_size c j) x)) in
    let rest = gen_operations more c (j + 1) (state_behind (gen_size c j) x) in
    let made_i = made j c x in
    let later = operations_go more c (j + 1) (state_behind (gen_size c j) x) (before ++ i ∷ []) cs (n + 1) (made_ready before cs n i h made_i) (begun_more before (i ∷ []) begun) (omega arith) in
    let same : n + 1 + more ≡ n + suc more = omega arith in
    record {
      stand = (made_stands before cs n i h begun (omega arith) made_i, later.stand);
      ready = subst₂ (λ b k. Ready b cs k) (append_assoc before (i ∷ []) rest) same later.ready;
    }

has_client : (before : List Item) → list_any is_client (before ++ Client ∷ []) ≡ true
has_client before = list_any-append is_client before (Client ∷ []) ∙ or_right (list_any is_client before) true refl

clients_go : (more c ops x : ℕ) (before : List Item) (cs n : ℕ) → Ready before cs n → cs + more ≤ 31 → n + more * ops ≤ 4096 → Stand before (gen_clients more c ops x)
clients_go zero c ops x before cs n h few room = tt
clients_go (suc more) c ops x before cs n h few room =
    let rest = gen_clients more (c + 1) ops (state_behind (gen_draws ops c 1) x) in
    let own = gen_operations ops c 1 x in
    let product : suc more * ops ≡ more * ops + ops = suc-mul more ops in
    let first = client_ready before cs n h in
    let mine = operations_go ops c 1 x (before ++ Client ∷ []) (cs + 1) n first (has_client before) (omega arith) in
    let here : Stand before (Client ∷ own) = (client_stands before cs n h (omega arith), mine.stand) in
    let behind : Ready (before ++ (Client ∷ own)) (cs + 1) (n + ops) = subst (λ b. Ready b (cs + 1) (n + ops)) (append_assoc before (Client ∷ []) own) mine.ready in
    stand_append before (Client ∷ own) rest here (clients_go more (c + 1) ops (state_behind (gen_draws ops c 1) x) (before ++ (Client ∷ own)) (cs + 1) (n + ops) behind (omega arith) (omega arith))

-- the setup
a_shape : (piece again : ℕ) (serve : Bool) → IsOption 65536 1 65536 piece → IsOption 0 2 65536 again → IsShape (shaped piece again serve)
a_shape piece again serve hp ha = record { piece_in = hp; again_in = ha; fail_in = inl refl; end_in = tt }

setup_stands : Stand [] setup
setup_stands = (
  record { formed = (record { reads = refl; bytes = refl; one = refl }, a_shape 7 0 false (inr (record { from = omega arith; to = omega arith })) (inl refl)); ordered = refl; few = refl; paired = refl },
  (
    record { formed = (record { reads = refl; bytes = refl; one = refl }, a_shape 65536 2 false (inl refl) (inr (record { from = omega arith; to = omega arith }))); ordered = refl; few = refl; paired = refl },
    (
      record { formed = (record { reads = refl; bytes = refl; one = refl }, a_shape 65536 0 true (inl refl) (inl refl)); ordered = refl; few = refl; paired = refl },
      (
        record { formed = (record { reads = refl; bytes = refl; one = refl }, a_shape 5 0 true (inr (record { from = omega arith; to = omega arith })) (inl refl)); ordered = refl; few = refl; paired = refl },
        tt,
      ),
    ),
  ),
)

setup_ready : Ready setup 0 4
setup_ready = record { quiet = refl; named = refl; clients_are = refl; operations_are = refl }

generated_sound : (seed clients ops : ℕ) → clients ≤ 31 → clients * ops ≤ 4092 → IsSound (generated seed clients ops)
generated_sound seed clients ops few room = record {
  stand = stand_append [] setup (gen_clients clients 1 ops seed) setup_stands (clients_go clients 1 ops seed setup 0 4 setup_ready (omega arith) (omega arith));
  whole_is = whole_as_is (generated seed clients ops) (drawn_all seed clients ops);
}

-- a generated script is printed as it is, and read as it is
pub generated_back : (seed clients ops : ℕ) → clients ≤ 31 → clients * ops ≤ 4092 → script_of (script_text (generated seed clients ops)) ≡ Ok (generated seed clients ops)
generated_back seed clients ops few room =
    let script = generated seed clients ops in
    (sound_back script (generated_sound seed clients ops few room)).read ∙ ap (λ is. Ok is) (printed_as_is script (drawn_all seed clients ops))
