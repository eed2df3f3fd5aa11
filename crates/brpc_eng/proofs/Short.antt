-- The text of a drawn script is no longer than a script may be.
use Rattle.std.proofs.Common.{◌≡◌, ℕ, zero, suc, ◌+◌, ◌*◌, ◌%◌, ◌<◌, ◌≤◌, ◌==◌, Bool, true, false, cond, if◌then◌else◌, List, [], ◌∷◌, ◌++◌, length, map, flat_map, codes, decimal, length-append, suc-mul, refl, sym, ap, ◌∙◌, arith}
use Rattle.std.proofs.lemmas.Bool.{cond_both}
use Rattle.std.proofs.lemmas.Fmt.{length-decimal-le}
use Rattle.std.proofs.lemmas.Grind.{flat_map-append}
use Rattle.hex.specs.Hex.{lower_digits}
use Rattle.hex.proofs.HexLemmas.{length-encode_with}
use Rattle.sock_words.specs.PrintedWords.{word, hex_text}
use Rattle.brpc_model.specs.DrawnSeatsAndScripts.{draws, state_behind, shaped, setup, call_of, gen_item, gen_size, gen_operations, gen_draws, gen_clients, generated}
use Rattle.brpc_model.specs.Items.{Item, Open, Client, Send}
use Rattle.brpc_model.specs.ScriptText.{option_text, item_text, printed_items, script_text}
use Rattle.script_print.proofs.PrintedScriptReadAgain.{read_back}
use Rattle.script_draw.proofs.Generated.{generated_back}
use Rattle.brpc_eng.specs.WholeSourceRead.{script_limit}

-- ## Parts of a line

hex_short : (bytes : List ℕ) → length bytes ≤ 64 → length (hex_text bytes) ≤ 128
hex_short [] few = omega arith
hex_short (b ∷ bytes) few = let long = length-encode_with lower_digits (b ∷ bytes) in omega (arith, long, few)

option_short : (key : List ℕ) (default n : ℕ) → n < 100000 → length (option_text key default n) ≤ 7 + length key
option_short key default n few = by (n == default)
  where
    by : (b : Bool) → length (cond b [] (32 ∷ key ++ 61 ∷ decimal n)) ≤ 7 + length key
    by true = omega arith
    by false = omega (arith, length-append key (61 ∷ decimal n), length-decimal-le 5 n (omega arith) few (omega arith))

-- ## Lines

abbrev line : Item → List ℕ
line item = item_text item ++ 10 ∷ []

send_short : (name bytes : List ℕ) → length name ≤ 1 → length bytes ≤ 64 → length (line (Send name bytes)) ≤ 160
send_short name bytes named few = sums name (hex_text bytes) named (hex_short bytes few)
  where
    sums : (n h : List ℕ) → length n ≤ 1 → length h ≤ 128 → length (((codes "send" ++ word n) ++ word h) ++ 10 ∷ []) ≤ 160
    sums n h a b = omega (arith, a, b, length-append ((codes "send" ++ word n) ++ word h) (10 ∷ []), length-append (codes "send" ++ word n) (word h), length-append (codes "send") (word n))

call_short : (name method bytes : List ℕ) (retry : ℕ) → length name ≤ 1 → length method ≤ 7 → length bytes ≤ 64 → retry < 100000 → length (line (call_of name method bytes retry)) ≤ 200
call_short name method bytes retry named called few tried = sums name method (hex_text bytes) (option_text (codes "retry") 0 retry) named called (hex_short bytes few) (option_short (codes "retry") 0 retry tried)
  where
    sums : (n m h r : List ℕ) → length n ≤ 1 → length m ≤ 7 → length h ≤ 128 → length r ≤ 12 → length ((((((codes "call" ++ word n) ++ word (codes "Echo" ++ 46 ∷ m)) ++ word h) ++ []) ++ r) ++ 10 ∷ []) ≤ 200
    sums n m h r a b c d = omega (
      arith,
      a,
      b,
      c,
      d,
      length-append (((((codes "call" ++ word n) ++ word (codes "Echo" ++ 46 ∷ m)) ++ word h) ++ []) ++ r) (10 ∷ []),
      length-append ((((codes "call" ++ word n) ++ word (codes "Echo" ++ 46 ∷ m)) ++ word h) ++ []) r,
      length-append (((codes "call" ++ word n) ++ word (codes "Echo" ++ 46 ∷ m)) ++ word h) [],
      length-append ((codes "call" ++ word n) ++ word (codes "Echo" ++ 46 ∷ m)) (word h),
      length-append (codes "call" ++ word n) (word (codes "Echo" ++ 46 ∷ m)),
      length-append (codes "call") (word n),
    )

open_short : (name : List ℕ) (piece again : ℕ) (serve : Bool) → length name ≤ 1 → piece < 100000 → again < 100000 → length (line (Open name (shaped piece again serve))) ≤ 200
open_short name piece again serve named few rare = sums name (option_text (codes "piece") 65536 piece) (option_text (codes "again") 0 again) (cond serve (codes " serve") []) named (option_short (codes "piece") 65536 piece few) (option_short (codes "again") 0 again rare) (by serve)
  where
    by : (b : Bool) → length (cond b (codes " serve") []) ≤ 6
    by true = omega arith
    by false = omega arith

    sums : (n p a s : List ℕ) → length n ≤ 1 → length p ≤ 12 → length a ≤ 12 → length s ≤ 6 → length (((codes "open" ++ word n) ++ ((((p ++ a) ++ []) ++ s) ++ [])) ++ 10 ∷ []) ≤ 200
    sums n p a s h i j k = omega (
      arith,
      h,
      i,
      j,
      k,
      length-append ((codes "open" ++ word n) ++ ((((p ++ a) ++ []) ++ s) ++ [])) (10 ∷ []),
      length-append (codes "open" ++ word n) ((((p ++ a) ++ []) ++ s) ++ []),
      length-append (codes "open") (word n),
      length-append (((p ++ a) ++ []) ++ s) [],
      length-append ((p ++ a) ++ []) s,
      length-append (p ++ a) [],
      length-append p a,
    )

item_short : (j : ℕ) (bytes : List ℕ) → length bytes ≤ 64 → length (line (gen_item j bytes)) ≤ 200
item_short j bytes few =
    cond_both (j % 4 == 1) (Send (codes "a") bytes) (if j % 4 == 2 then Send (codes "b") bytes else if j % 4 == 3 then call_of (codes "c") (codes "Echo") bytes 0 else call_of (codes "d") (codes "Reverse") bytes 1) IsShort
    (λ e. sent (codes "a") (omega arith))
    (λ e. cond_both (j % 4 == 2) (Send (codes "b") bytes) (if j % 4 == 3 then call_of (codes "c") (codes "Echo") bytes 0 else call_of (codes "d") (codes "Reverse") bytes 1) IsShort
    (λ e. sent (codes "b") (omega arith))
    (λ e. cond_both (j % 4 == 3) (call_of (codes "c") (codes "Echo") bytes 0) (call_of (codes "d") (codes "Reverse") bytes 1) IsShort
    (λ e. call_short (codes "c") (codes "Echo") bytes 0 (omega arith) (omega arith) few (omega arith)) (λ e. call_short (codes "d") (codes "Reverse") bytes 1 (omega arith) (omega arith) few (omega arith))))
  where
    IsShort : Item → Type 0
    IsShort i = length (line i) ≤ 200

    sent : (name : List ℕ) → length name ≤ 1 → length (line (Send name bytes)) ≤ 200
    sent name named = let s = send_short name bytes named few in omega (arith, s)

-- ## All lines

drawn_long : (n x : ℕ) → length (map (λ d. d % 256) (draws n x)) ≡ n
drawn_long zero x = refl
drawn_long (suc n) x = ap suc (drawn_long n _)

operations_short : (more c j x : ℕ) → length (flat_map line (gen_operations more c j x)) ≤ 200 * more
operations_short zero c j x = omega arith
operations_short (suc more) c j x =
    let item = gen_item j (map (λ d. d % 256) (draws (gen_size c j) x)) in let rest = gen_operations more c (j + 1) (state_behind (gen_size c j) x) in
    let here : length (line item) ≤ 200 = item_short j (map (λ d. d % 256) (draws (gen_size c j) x)) (omega (arith, drawn_long (gen_size c j) x)) in
    let later : length (flat_map line rest) ≤ 200 * more = operations_short more c (j + 1) (state_behind (gen_size c j) x) in
    sums (length (line item)) (length (flat_map line rest)) (length (line item ++ flat_map line rest)) (length-append (line item) (flat_map line rest)) here later
  where
    sums : (a b t : ℕ) → t ≡ a + b → a ≤ 200 → b ≤ 200 * more → t ≤ 200 * suc more
    sums a b t e h l = omega (arith, e, h, l)

clients_short : (more c ops x : ℕ) → length (flat_map line (gen_clients more c ops x)) ≤ 200 * more + 200 * (more * ops)
clients_short zero c ops x = omega arith
clients_short (suc more) c ops x =
    let own = gen_operations ops c 1 x in let rest = gen_clients more (c + 1) ops (state_behind (gen_draws ops c 1) x) in
    sums (length (flat_map line own)) (length (flat_map line rest)) (length (line Client ++ flat_map line own)) (length (flat_map line ((Client ∷ own) ++ rest))) (more * ops) (suc more * ops) (suc-mul more ops)
    (length-append (line Client) (flat_map line own)) (ap length (flat_map-append line (Client ∷ own) rest) ∙ length-append (line Client ++ flat_map line own) (flat_map line rest))
    (operations_short ops c 1 x) (clients_short more (c + 1) ops (state_behind (gen_draws ops c 1) x))
  where
    sums : (a b o t m n : ℕ) → n ≡ m + ops → o ≡ 7 + a → t ≡ o + b → a ≤ 200 * ops → b ≤ 200 * more + 200 * m → t ≤ 200 * suc more + 200 * n
    sums a b o t m n p e f h l = omega (arith, p, e, f, h, l)

setup_short : length (flat_map line setup) ≤ 800
setup_short = let a = open_short (codes "a") 7 0 false (omega arith) (omega arith) (omega arith) in let b = open_short (codes "b") 65536 2 false (omega arith) (omega arith) (omega arith) in
    let c = open_short (codes "c") 65536 0 true (omega arith) (omega arith) (omega arith) in let d = open_short (codes "d") 5 0 true (omega arith) (omega arith) (omega arith) in
    sums (line (Open (codes "a") (shaped 7 0 false))) (line (Open (codes "b") (shaped 65536 2 false))) (line (Open (codes "c") (shaped 65536 0 true))) (line (Open (codes "d") (shaped 5 0 true))) a b c d
  where
    sums : (a b c d : List ℕ) → length a ≤ 200 → length b ≤ 200 → length c ≤ 200 → length d ≤ 200 → length (a ++ (b ++ (c ++ (d ++ [])))) ≤ 800
    sums a b c d h i j k = omega (arith, h, i, j, k, length-append a (b ++ (c ++ (d ++ []))), length-append b (c ++ (d ++ [])), length-append c (d ++ []), length-append d [])

-- it is printed as it is
printed_so : (seed clients ops : ℕ) → clients ≤ 31 → clients * ops ≤ 4092 → printed_items (generated seed clients ops) ≡ generated seed clients ops
printed_so seed clients ops few room = let back = generated_back seed clients ops few room in let again = (read_back (generated seed clients ops) (script_text (generated seed clients ops), back)).read in cc (sym again ∙ back)

pub drawn_short : (seed clients ops : ℕ) → clients ≤ 31 → clients * ops ≤ 4092 → length (script_text (generated seed clients ops)) ≤ script_limit
drawn_short seed clients ops few room =
    let same : length (script_text (generated seed clients ops)) ≡ length (flat_map line (generated seed clients ops)) = ap (λ items. length (flat_map line items)) (printed_so seed clients ops few room) in
    let parts = ap length (flat_map-append line setup (gen_clients clients 1 ops seed)) ∙ length-append (flat_map line setup) (flat_map line (gen_clients clients 1 ops seed)) in
    sums (length (script_text (generated seed clients ops))) (length (flat_map line (generated seed clients ops))) (length (flat_map line setup)) (length (flat_map line (gen_clients clients 1 ops seed))) (clients * ops) same parts setup_short (clients_short clients 1 ops seed) room
  where
    sums : (t l a b m : ℕ) → t ≡ l → l ≡ a + b → a ≤ 800 → b ≤ 200 * clients + 200 * m → m ≤ 4092 → t ≤ 1048576
    sums t l a b m e f h i r = omega (arith, e, f, h, i, r, few)
