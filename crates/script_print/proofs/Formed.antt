-- What an item must be so that its line is read as that item, and that each item that was read is so.
use Rattle.std.proofs.Common.{◌≡◌, ℕ, ◌%◌, ◌^◌, ◌<◌, Bool, true, false, cond, if◌then◌else◌, not, ◌==◌, List, [], ◌∷◌, ◌++◌, flat_map, decimal, bytes_eq, codes, IfOk, Ok, Err, Option, Some, None, refl, ap, sym, ◌∙◌, append-nil, append_assoc, arith}
use Rattle.std.specs.List.{list_all, slice_split, join_with_byte}
use Rattle.std.proofs.lemmas.Bool.{and_from, cond-true, cond-false}
use Rattle.hex.specs.Hex.{IsBytes}
use Rattle.sock_words.specs.PrintedWords.{word, hex_text}
use Rattle.brpc_model.specs.Text.{words, number_in, name_in, hex_in, sized}
use Rattle.brpc_model.specs.LinePartReads.{Reads, ◌<*>◌, ◌>>=◌}
use Rattle.brpc_model.specs.Items.{Item, Slots, Requests, First, Open, Client, Send, Call, Expire, Join, Fail, Hold, Drop, Sched, Tick, To}
use Rattle.brpc_model.specs.ScriptLineFaults.{kind_in, shape_in, call_in, seat_in, alone, of_name, of_number, first_item, open_item, send_item, call_item, target_item, fail_item, tick_item, to_item, item_of, line_item, is_text_byte}
use Rattle.brpc_model.specs.ScriptText.{seat_text, item_text}
use Rattle.script_print.proofs.Spaced.{is_word, words_spaced, text_spaced}
use Rattle.script_print.proofs.Gives.{of_part, of_parts, of_next, of_test, of_either}
use Rattle.script_print.proofs.TokensReadAgain.{IsWithin, number_within, number_back, decimal_word, hex_word, hex_back, hex_bytes, sized_reads, sized_same}
use Rattle.script_print.proofs.PartLemmas.{IsName, named, IsTarget, target_of, target_back, target_word, IsSeat, seated, seat_back, seat_word, IsKind, kind_of}
use Rattle.script_print.proofs.Shapes.{IsShape, shaped, shape_words, shape_back, shape_text_words, shape_words_are}
use Rattle.script_print.proofs.PrintedCalls.{IsCallLine, called, call_options, call_back, call_words_are, call_text_words}

-- bytes of a message
pub record IsMessage (bytes : List ℕ) : Type 0 where
  pub bytes_are : IsBytes bytes
  pub long : sized 1 65536 bytes ≡ Ok bytes

-- what each part of an item is; a seat is judged by the items before
abbrev pub IsFormed : List Item → Item → Type 0
IsFormed before (Slots n) = IsWithin 1 31 n
IsFormed before (Requests n) = IsWithin 1 4096 n
IsFormed before (First v) = IsWithin 0 4294967292 v × ((v % 2 == 0) ≡ true)
IsFormed before (Open name shape) = IsName name × IsShape shape
IsFormed before Client = Unit {0}
IsFormed before (Send name bytes) = IsName name × IsMessage bytes
IsFormed before (Call call) = IsCallLine call
IsFormed before (Expire client number) = IsTarget client number
IsFormed before (Join client number) = IsTarget client number
IsFormed before (Fail name code) = IsName name × IsWithin 1500 1999 code
IsFormed before (Hold name) = IsName name
IsFormed before (Drop name) = IsName name
IsFormed before Sched = Unit {0}
IsFormed before (Tick seat n) = IsSeat before seat × IsWithin 1 65536 n
IsFormed before (To seat kind) = IsSeat before seat × IsKind kind

-- what a line says is formed
abbrev pub Said : List Item → Option Item → Type 0
Said before None = Unit {0}
Said before (Some item) = IsFormed before item

-- ## What was read is formed

alone_formed : (before : List Item) (item : Item) → IsFormed before item → (args : List (List ℕ)) → IfOk (alone item args) (IsFormed before)
alone_formed before item h [] = h
alone_formed before item h (w ∷ ws) = tt

number_formed : (before : List Item) (make : ℕ → Item) (low high : ℕ) → ((n : ℕ) → IsWithin low high n → IsFormed before (make n)) → (args : List (List ℕ)) → IfOk (of_number make low high args) (IsFormed before)
number_formed before make low high k [] = tt
number_formed before make low high k (n ∷ []) = of_part make (number_in low high n) (IsWithin low high) (IsFormed before) (number_within low high n) k
number_formed before make low high k (n ∷ m ∷ ws) = tt

name_formed : (before : List Item) (make : List ℕ → Item) → ((n : List ℕ) → IsName n → IsFormed before (make n)) → (args : List (List ℕ)) → IfOk (of_name make args) (IsFormed before)
name_formed before make k [] = tt
name_formed before make k (n ∷ []) = of_part make (name_in n) IsName (IsFormed before) (named n) k
name_formed before make k (n ∷ m ∷ ws) = tt

first_formed : (before : List Item) (args : List (List ℕ)) → IfOk (first_item args) (IsFormed before)
first_formed before [] = tt
first_formed before (n ∷ []) = of_next (number_in 0 4294967292 n) (λ v. if v % 2 == 0 then Ok (First v) else Err 4) (IsWithin 0 4294967292) (IsFormed before) (number_within 0 4294967292 n) (λ v h. of_test (v % 2 == 0) (First v) 4 (IsFormed before) (λ e. (h, e)))
first_formed before (n ∷ m ∷ ws) = tt

open_formed : (before : List Item) (args : List (List ℕ)) → IfOk (open_item args) (IsFormed before)
open_formed before [] = tt
open_formed before (name ∷ options) = of_parts (λ n shape. Open n shape) (name_in name) (shape_in options) IsName IsShape (IsFormed before) (named name) (shaped options) (λ n s hn hs. (hn, hs))

message : (hex : List ℕ) → IfOk (hex_in hex >>= sized 1 65536) IsMessage
message hex = of_next (hex_in hex) (sized 1 65536) IsBytes IsMessage (hex_bytes hex) (λ bytes h. made bytes h (sized 1 65536 bytes) refl)
  where
    made : (bytes : List ℕ) → IsBytes bytes → (r : Reads (List ℕ)) → sized 1 65536 bytes ≡ r → IfOk r IsMessage
    made bytes h (Err k) e = tt
    made bytes h (Ok got) e =
        let same : got ≡ bytes = rw e at (sized_same 1 65536 bytes) in
        let reads : sized 1 65536 got ≡ Ok got = rw e at (sized_reads 1 65536 bytes) in
        record { bytes_are = rw same h; long = reads }

send_formed : (before : List Item) (args : List (List ℕ)) → IfOk (send_item args) (IsFormed before)
send_formed before [] = tt
send_formed before (n ∷ []) = tt
send_formed before (n ∷ hex ∷ []) = of_parts (λ n bytes. Send n bytes) (name_in n) (hex_in hex >>= sized 1 65536) IsName IsMessage (IsFormed before) (named n) (message hex) (λ n bytes hn hb. (hn, hb))
send_formed before (n ∷ hex ∷ w ∷ ws) = tt

call_formed : (before : List Item) (args : List (List ℕ)) → IfOk (call_item args) (IsFormed before)
call_formed before [] = tt
call_formed before (n ∷ []) = tt
call_formed before (n ∷ m ∷ []) = tt
call_formed before (n ∷ m ∷ p ∷ options) = of_part (λ call. Call call) (call_in n m p options) IsCallLine (IsFormed before) (called n m p options) (λ c h. h)

target_formed : (before : List Item) (make : ℕ → ℕ → Item) → ((c i : ℕ) → IsTarget c i → IsFormed before (make c i)) → (args : List (List ℕ)) → IfOk (target_item make args) (IsFormed before)
target_formed before make k [] = tt
target_formed before make k (t ∷ []) = target_of make (IsFormed before) k (slice_split (λ b. b == 46) t)
target_formed before make k (t ∷ w ∷ ws) = tt

fail_formed : (before : List Item) (args : List (List ℕ)) → IfOk (fail_item args) (IsFormed before)
fail_formed before [] = tt
fail_formed before (n ∷ []) = tt
fail_formed before (n ∷ code ∷ []) = of_parts (λ n c. Fail n c) (name_in n) (number_in 1500 1999 code) IsName (IsWithin 1500 1999) (IsFormed before) (named n) (number_within 1500 1999 code) (λ n c hn hc. (hn, hc))
fail_formed before (n ∷ code ∷ w ∷ ws) = tt

tick_formed : (before : List Item) (args : List (List ℕ)) → IfOk (tick_item before args) (IsFormed before)
tick_formed before [] = tt
tick_formed before (s ∷ []) = tt
tick_formed before (s ∷ n ∷ []) = of_parts (λ s t. Tick s t) (seat_in before s) (number_in 1 65536 n) (IsSeat before) (IsWithin 1 65536) (IsFormed before) (seated before s) (number_within 1 65536 n) (λ s n hs hn. (hs, hn))
tick_formed before (s ∷ n ∷ w ∷ ws) = tt

to_formed : (before : List Item) (args : List (List ℕ)) → IfOk (to_item before args) (IsFormed before)
to_formed before [] = tt
to_formed before (s ∷ []) = tt
to_formed before (s ∷ kind ∷ []) = of_parts (λ s k. To s k) (seat_in before s) (kind_in kind) (IsSeat before) IsKind (IsFormed before) (seated before s) (kind_of kind) (λ s k hs hk. (hs, hk))
to_formed before (s ∷ kind ∷ w ∷ ws) = tt

chosen : (before : List Item) (test : Bool) (a b : Reads Item) → IfOk a (IsFormed before) → IfOk b (IsFormed before) → IfOk (cond test a b) (IsFormed before)
chosen before test a b ha hb = of_either test a b (IsFormed before) ha hb

pub formed : (before : List Item) (ws : List (List ℕ)) → IfOk (item_of before ws) (IsFormed before)
formed before [] = tt
formed before (w ∷ args) =
    chosen before (bytes_eq w (codes "slots")) _ _ (number_formed before (λ n. Slots n) 1 31 (λ n h. h) args)
    (chosen before (bytes_eq w (codes "requests")) _ _ (number_formed before (λ n. Requests n) 1 4096 (λ n h. h) args)
    (chosen before (bytes_eq w (codes "first")) _ _ (first_formed before args)
    (chosen before (bytes_eq w (codes "open")) _ _ (open_formed before args)
    (chosen before (bytes_eq w (codes "client")) _ _ (alone_formed before Client tt args)
    (chosen before (bytes_eq w (codes "send")) _ _ (send_formed before args)
    (chosen before (bytes_eq w (codes "call")) _ _ (call_formed before args)
    (chosen before (bytes_eq w (codes "expire")) _ _ (target_formed before (λ c i. Expire c i) (λ c i h. h) args)
    (chosen before (bytes_eq w (codes "join")) _ _ (target_formed before (λ c i. Join c i) (λ c i h. h) args)
    (chosen before (bytes_eq w (codes "fail")) _ _ (fail_formed before args)
    (chosen before (bytes_eq w (codes "hold")) _ _ (name_formed before (λ n. Hold n) (λ n h. h) args)
    (chosen before (bytes_eq w (codes "drop")) _ _ (name_formed before (λ n. Drop n) (λ n h. h) args)
    (chosen before (bytes_eq w (codes "sched")) _ _ (alone_formed before Sched tt args)
    (chosen before (bytes_eq w (codes "tick")) _ _ (tick_formed before args)
    (chosen before (bytes_eq w (codes "to")) _ (Err 2) (to_formed before args) tt))))))))))))))

-- ## What is formed is read again

-- the first word of an item's line, and the words behind it
abbrev pub first_word : Item → List ℕ
first_word (Slots n) = codes "slots"
first_word (Requests n) = codes "requests"
first_word (First v) = codes "first"
first_word (Open name shape) = codes "open"
first_word Client = codes "client"
first_word (Send name bytes) = codes "send"
first_word (Call call) = codes "call"
first_word (Expire client number) = codes "expire"
first_word (Join client number) = codes "join"
first_word (Fail name code) = codes "fail"
first_word (Hold name) = codes "hold"
first_word (Drop name) = codes "drop"
first_word Sched = codes "sched"
first_word (Tick seat n) = codes "tick"
first_word (To seat kind) = codes "to"

abbrev pub args : Item → List (List ℕ)
args (Slots n) = decimal n ∷ []
args (Requests n) = decimal n ∷ []
args (First v) = decimal v ∷ []
args (Open name shape) = name ∷ shape_words shape
args Client = []
args (Send name bytes) = name ∷ hex_text bytes ∷ []
args (Call call) = join_with_byte 44 call.names ∷ (call.service ++ 46 ∷ call.method) ∷ hex_text call.payload ∷ call_options call
args (Expire client number) = (decimal client ++ 46 ∷ decimal number) ∷ []
args (Join client number) = (decimal client ++ 46 ∷ decimal number) ∷ []
args (Fail name code) = name ∷ decimal code ∷ []
args (Hold name) = name ∷ []
args (Drop name) = name ∷ []
args Sched = []
args (Tick seat n) = seat_text seat ∷ decimal n ∷ []
args (To seat kind) = seat_text seat ∷ kind ∷ []

one_word : (t w : List ℕ) → t ++ word w ≡ t ++ flat_map word (w ∷ [])
one_word t w = ap (λ u. t ++ u) (sym (append-nil (word w)))

two_words : (t v w : List ℕ) → t ++ word v ++ word w ≡ t ++ flat_map word (v ∷ w ∷ [])
two_words t v w = simp (append_assoc, append-nil)

-- the text of an item is its words
pub text_words : (item : Item) → item_text item ≡ first_word item ++ flat_map word (args item)
text_words (Slots n) = one_word (codes "slots") (decimal n)
text_words (Requests n) = one_word (codes "requests") (decimal n)
text_words (First v) = one_word (codes "first") (decimal v)
text_words (Open name shape) = ap (λ t. codes "open" ++ word name ++ t) (shape_text_words shape) ∙ append_assoc (codes "open") (word name) (flat_map word (shape_words shape))
text_words Client = refl
text_words (Send name bytes) = two_words (codes "send") name (hex_text bytes)
text_words (Call call) = call_text_words call
text_words (Expire client number) = one_word (codes "expire") (decimal client ++ 46 ∷ decimal number)
text_words (Join client number) = one_word (codes "join") (decimal client ++ 46 ∷ decimal number)
text_words (Fail name code) = two_words (codes "fail") name (decimal code)
text_words (Hold name) = one_word (codes "hold") name
text_words (Drop name) = one_word (codes "drop") name
text_words Sched = refl
text_words (Tick seat n) = two_words (codes "tick") (seat_text seat) (decimal n)
text_words (To seat kind) = two_words (codes "to") (seat_text seat) kind

small : (high n low : ℕ) → IsWithin low high n → high < 2 ^ 64 → n < 2 ^ 64
small high n low h top = let to = h.to in omega arith

one_is : (w : List ℕ) → is_word w ≡ true → list_all is_word (w ∷ []) ≡ true
one_is w h = and_from (is_word w) true h refl

two_are : (v w : List ℕ) → is_word v ≡ true → is_word w ≡ true → list_all is_word (v ∷ w ∷ []) ≡ true
two_are v w h k = and_from (is_word v) (list_all is_word (w ∷ [])) h (one_is w k)

args_are : (before : List Item) (item : Item) → IsFormed before item → list_all is_word (args item) ≡ true
args_are before (Slots n) h = one_is (decimal n) (decimal_word n (small 31 n 1 h (omega arith)))
args_are before (Requests n) h = one_is (decimal n) (decimal_word n (small 4096 n 1 h (omega arith)))
args_are before (First v) h = one_is (decimal v) (decimal_word v (small 4294967292 v 0 h.0 (omega arith)))
args_are before (Open name shape) h = and_from (is_word name) (list_all is_word (shape_words shape)) h.0.one (shape_words_are shape h.1)
args_are before Client h = refl
args_are before (Send name bytes) h = two_are name (hex_text bytes) h.0.one (hex_word bytes h.1.bytes_are)
args_are before (Call call) h = call_words_are call h
args_are before (Expire client number) h = one_is (decimal client ++ 46 ∷ decimal number) (target_word client number h)
args_are before (Join client number) h = one_is (decimal client ++ 46 ∷ decimal number) (target_word client number h)
args_are before (Fail name code) h = two_are name (decimal code) h.0.one (decimal_word code (small 1999 code 1500 h.1 (omega arith)))
args_are before (Hold name) h = one_is name h.one
args_are before (Drop name) h = one_is name h.one
args_are before Sched h = refl
args_are before (Tick seat n) h = two_are (seat_text seat) (decimal n) (seat_word before seat h.0) (decimal_word n (small 65536 n 1 h.1 (omega arith)))
args_are before (To seat kind) h = two_are (seat_text seat) kind (seat_word before seat h.0) h.1.one

item_back : (before : List Item) (item : Item) → IsFormed before item → item_of before (first_word item ∷ args item) ≡ Ok item
item_back before (Slots n) h = ap (λ r. Ok (λ n. Slots n) <*> r) (number_back 1 31 n (small 31 n 1 h (omega arith)) h)
item_back before (Requests n) h = ap (λ r. Ok (λ n. Requests n) <*> r) (number_back 1 4096 n (small 4096 n 1 h (omega arith)) h)
item_back before (First v) h =
    ap (λ r. r >>= (λ v. if v % 2 == 0 then Ok (First v) else Err 4)) (number_back 0 4294967292 v (small 4294967292 v 0 h.0 (omega arith)) h.0)
    ∙ cond-true (v % 2 == 0) (Ok (First v)) (Err 4) h.1
item_back before (Open name shape) h =
    ap (λ r. Ok (λ n shape. Open n shape) <*> r <*> shape_in (shape_words shape)) h.0.reads ∙ ap (λ r. Ok (λ n shape. Open n shape) <*> Ok name <*> r) (shape_back shape h.1)
item_back before Client h = refl
item_back before (Send name bytes) h =
    ap (λ r. Ok (λ n bytes. Send n bytes) <*> r <*> (hex_in (hex_text bytes) >>= sized 1 65536)) h.0.reads
    ∙ ap (λ r. Ok (λ n bytes. Send n bytes) <*> Ok name <*> (r >>= sized 1 65536)) (hex_back bytes h.1.bytes_are)
    ∙ ap (λ r. Ok (λ n bytes. Send n bytes) <*> Ok name <*> r) h.1.long
item_back before (Call call) h = ap (λ r. Ok (λ call. Call call) <*> r) (call_back call h)
item_back before (Expire client number) h = target_back (λ c i. Expire c i) client number h
item_back before (Join client number) h = target_back (λ c i. Join c i) client number h
item_back before (Fail name code) h =
    ap (λ r. Ok (λ n c. Fail n c) <*> r <*> number_in 1500 1999 (decimal code)) h.0.reads
    ∙ ap (λ r. Ok (λ n c. Fail n c) <*> Ok name <*> r) (number_back 1500 1999 code (small 1999 code 1500 h.1 (omega arith)) h.1)
item_back before (Hold name) h = ap (λ r. Ok (λ n. Hold n) <*> r) h.reads
item_back before (Drop name) h = ap (λ r. Ok (λ n. Drop n) <*> r) h.reads
item_back before Sched h = refl
item_back before (Tick seat n) h =
    ap (λ r. Ok (λ s t. Tick s t) <*> r <*> number_in 1 65536 (decimal n)) (seat_back before seat h.0)
    ∙ ap (λ r. Ok (λ s t. Tick s t) <*> Ok seat <*> r) (number_back 1 65536 n (small 65536 n 1 h.1 (omega arith)) h.1)
item_back before (To seat kind) h =
    ap (λ r. Ok (λ s k. To s k) <*> r <*> kind_in kind) (seat_back before seat h.0)
    ∙ ap (λ r. Ok (λ s k. To s k) <*> Ok seat <*> r) h.1.reads

first_word_is : (item : Item) → is_word (first_word item) ≡ true
first_word_is (Slots n) = refl
first_word_is _ = refl

-- the first byte of a line that says an item
abbrev is_comment : List ℕ → Bool
is_comment [] = true
is_comment (b ∷ w) = b == 35

no_comment : (item : Item) → is_comment (first_word item) ≡ false
no_comment (Slots n) = refl
no_comment _ = refl

line_of_words : (before : List Item) (item : Item) (w : List ℕ) (ws : List (List ℕ)) → is_comment w ≡ false → list_all is_word (w ∷ ws) ≡ true → item_of before (w ∷ ws) ≡ Ok item → line_item before (w ++ flat_map word ws) ≡ Ok (Some item)
line_of_words before item [] ws c h e = absurd (never c)
  where
    never : true ≡ false → ⊥
    never d = cc
line_of_words before item (b ∷ w) ws c h e =
    let line = b ∷ (w ++ flat_map word ws) in
    let read = Ok (λ i. Some i) <*> item_of before (words line) in
    cond-false (b == 35) (Ok None) (cond (not (list_all is_text_byte line)) (Err 1) read) c
    ∙ cond-false (not (list_all is_text_byte line)) (Err 1) read (ap not (text_spaced (b ∷ w) ws h))
    ∙ ap (λ v. Ok (λ i. Some i) <*> item_of before v) (words_spaced (b ∷ w) ws h)
    ∙ ap (λ r. Ok (λ i. Some i) <*> r) e

words_are : (before : List Item) (item : Item) → IsFormed before item → list_all is_word (first_word item ∷ args item) ≡ true
words_are before item h = and_from (is_word (first_word item)) (list_all is_word (args item)) (first_word_is item) (args_are before item h)

-- the line of an item is read as that item
pub line_back : (before : List Item) (item : Item) → IsFormed before item → line_item before (item_text item) ≡ Ok (Some item)
line_back before item h =
    ap (line_item before) (text_words item)
    ∙ line_of_words before item (first_word item) (args item) (no_comment item) (words_are before item h) (item_back before item h)

-- its bytes are spaces and printable ones
pub line_text : (before : List Item) (item : Item) → IsFormed before item → list_all is_text_byte (item_text item) ≡ true
line_text before item h = ap (list_all is_text_byte) (text_words item) ∙ text_spaced (first_word item) (args item) (words_are before item h)

-- what a line says is formed
pub said_formed : (before : List Item) (line : List ℕ) → IfOk (line_item before line) (λ said. Said before said)
said_formed before [] = tt
said_formed before (b ∷ bytes) =
    of_either (b == 35) (Ok None) (cond (not (list_all is_text_byte (b ∷ bytes))) (Err 1) (Ok (λ i. Some i) <*> item_of before (words (b ∷ bytes)))) (Said before) tt
    (of_either (not (list_all is_text_byte (b ∷ bytes))) (Err 1) (Ok (λ i. Some i) <*> item_of before (words (b ∷ bytes))) (Said before) tt
    (of_part (λ i. Some i) (item_of before (words (b ∷ bytes))) (IsFormed before) (Said before) (formed before (words (b ∷ bytes))) (λ i h. h)))
