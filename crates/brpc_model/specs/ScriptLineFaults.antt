-- A line of a script by itself: fault kinds 1 to 7, of which the lowest counts.
use Rattle.std.specs.Prelude.{ℕ, ◌+◌, ◌%◌, Bool, true, false, ◌&&◌, not, nat_lt, nat_le, ◌==◌, if◌then◌else◌, List, [], ◌∷◌, length, filter, count_by, codes, bytes_eq, Option, Some, None, Ok, Err}
use Rattle.std.specs.List.{slice_split, list_all, list_any, before_last, after_last}
use Rattle.brpc_model.specs.Text.{words, number_in, name_in, method_in, service_in, hex_in, sized}
use Rattle.brpc_model.specs.LinePartReads.{Reads, ◌<*>◌, ◌>>=◌, values_of, option_in, are_known}
use Rattle.brpc_model.specs.Items.{Shape, CallLine, Seat, ClientSeat, ReaderSeat, Item, Slots, Requests, First, Open, Client, Send, Call, Expire, Join, Fail, Hold, Drop, Sched, Tick, To, is_client, is_open}

-- the names of the kinds of step
abbrev pub kind_names : List (List ℕ)
kind_names = words (codes "A1 A2 A3 A4 A5 A6 A7 A8 S1 S2 S3 S4 S5 S6 S7 C1 C2 C3 C4 C5 C6 C7 C8 P1 M1 M2 L1 L2 W1 W2 W3 R1 I1 I2 I3 I4 I5 I6 I7 I8 T1 T2 K1 K2")

-- a kind of step, by its name; else fault 7
abbrev pub kind_in : List ℕ → Reads (List ℕ)
kind_in w = if list_any (bytes_eq w) kind_names then Ok w else Err 7

-- the options of an `open`
abbrev pub shape_in : List (List ℕ) → Reads Shape
shape_in options =
    if are_known (codes "piece=" ∷ codes "again=" ∷ codes "fail=" ∷ codes "end=" ∷ []) (codes "serve" ∷ []) options then
    Ok (λ piece again fail end serve. record { piece = piece; again = again; fail = fail; serve = serve; end = end })
    <*> option_in (number_in 1 65536) 65536 (values_of (codes "piece=") options)
    <*> option_in (number_in 2 65536) 0 (values_of (codes "again=") options)
    <*> option_in (number_in 1 65536) 0 (values_of (codes "fail=") options)
    <*> option_in (λ w. Ok (λ n. Some n) <*> number_in 0 65536 w) None (values_of (codes "end=") options)
    <*> option_in (λ w. Ok true) false (filter (bytes_eq (codes "serve")) options)
    else Err 3

-- one name, or two parted by a comma
abbrev pub names_in : List (List ℕ) → Reads (List (List ℕ))
names_in (one ∷ []) = Ok (λ n. n ∷ []) <*> name_in one
names_in (one ∷ other ∷ []) = Ok (λ n m. n ∷ m ∷ []) <*> name_in one <*> name_in other
names_in more = Err 7

-- the payload and the attachment, of at most 65,280 bytes together
abbrev pub bodies_in : Reads (List ℕ × List ℕ) → Reads (List ℕ × List ℕ)
bodies_in (Ok bytes) = if nat_le (length bytes.0 + length bytes.1) 65280 then Ok bytes else Err 6
bodies_in (Err k) = Err k

-- a call, from its names, its service and method, its payload and its options
abbrev pub call_in : List ℕ → List ℕ → List ℕ → List (List ℕ) → Reads CallLine
call_in names method payload options =
    if are_known (codes "att=" ∷ codes "retry=" ∷ []) [] options then
    Ok (λ ns s m bytes retry. record { names = ns; service = s; method = m; payload = bytes.0; attachment = bytes.1; retry = retry })
    <*> names_in (slice_split (λ b. b == 44) names)
    <*> service_in (before_last (λ b. b == 46) method)
    <*> method_in (after_last (λ b. b == 46) method)
    <*> bodies_in (Ok (λ p a. (p, a)) <*> hex_in payload <*> option_in hex_in [] (values_of (codes "att=") options))
    <*> option_in (number_in 0 6) 0 (values_of (codes "retry=") options)
    else Err 3

-- `C.I` of two numbers of 64 bits
abbrev pub target_in : (ℕ → ℕ → Item) → List (List ℕ) → Reads Item
target_in make (client ∷ number ∷ []) = Ok make <*> number_in 0 18446744073709551615 client <*> number_in 0 18446744073709551615 number
target_in make more = Err 4

-- a client's number, or `r` and a link's number, of those that the lines before have
abbrev pub seat_in : List Item → List ℕ → Reads Seat
seat_in before [] = Err 4
seat_in before (b ∷ word) =
    if b == 114 then number_in 0 30 word >>= (λ k. if nat_lt k (count_by is_open before) then Ok (ReaderSeat k) else Err 4)
    else number_in 1 31 (b ∷ word) >>= (λ c. if nat_le c (count_by is_client before) then Ok (ClientSeat c) else Err 4)

-- ## What stands behind each first word

-- `word` alone
abbrev pub alone : Item → List (List ℕ) → Reads Item
alone item [] = Ok item
alone item more = Err 3

-- `word NAME`
abbrev pub of_name : (List ℕ → Item) → List (List ℕ) → Reads Item
of_name make (name ∷ []) = Ok make <*> name_in name
of_name make more = Err 3

-- `word N`, in a range
abbrev pub of_number : (ℕ → Item) → ℕ → ℕ → List (List ℕ) → Reads Item
of_number make low high (n ∷ []) = Ok make <*> number_in low high n
of_number make low high more = Err 3

-- `first V`, which is even
abbrev pub first_item : List (List ℕ) → Reads Item
first_item (n ∷ []) = number_in 0 4294967292 n >>= (λ v. if v % 2 == 0 then Ok (First v) else Err 4)
first_item more = Err 3

-- `open NAME` and its options
abbrev pub open_item : List (List ℕ) → Reads Item
open_item [] = Err 3
open_item (name ∷ options) = Ok (λ n shape. Open n shape) <*> name_in name <*> shape_in options

-- `send NAME HEX`, of 1 to 65,536 bytes
abbrev pub send_item : List (List ℕ) → Reads Item
send_item (name ∷ hex ∷ []) = Ok (λ n bytes. Send n bytes) <*> name_in name <*> (hex_in hex >>= sized 1 65536)
send_item more = Err 3

-- `call NAME[,NAME] SERVICE.METHOD HEX` and its options
abbrev pub call_item : List (List ℕ) → Reads Item
call_item (names ∷ method ∷ payload ∷ options) = Ok (λ call. Call call) <*> call_in names method payload options
call_item more = Err 3

-- `expire C.I` and `join C.I`
abbrev pub target_item : (ℕ → ℕ → Item) → List (List ℕ) → Reads Item
target_item make (target ∷ []) = target_in make (slice_split (λ b. b == 46) target)
target_item make more = Err 3

-- `fail NAME CODE`, of a code from 1500 to 1999
abbrev pub fail_item : List (List ℕ) → Reads Item
fail_item (name ∷ code ∷ []) = Ok (λ n c. Fail n c) <*> name_in name <*> number_in 1500 1999 code
fail_item more = Err 3

-- `tick SEAT N`
abbrev pub tick_item : List Item → List (List ℕ) → Reads Item
tick_item before (seat ∷ n ∷ []) = Ok (λ s t. Tick s t) <*> seat_in before seat <*> number_in 1 65536 n
tick_item before more = Err 3

-- `to SEAT KIND`
abbrev pub to_item : List Item → List (List ℕ) → Reads Item
to_item before (seat ∷ kind ∷ []) = Ok (λ s k. To s k) <*> seat_in before seat <*> kind_in kind
to_item before more = Err 3

-- one that fails a socket, takes a reference or gives it back, or one of the schedule
abbrev pub later_item : List Item → List ℕ → List (List ℕ) → Reads Item
later_item before first args =
    if bytes_eq first (codes "fail") then fail_item args
    else if bytes_eq first (codes "hold") then of_name (λ n. Hold n) args
    else if bytes_eq first (codes "drop") then of_name (λ n. Drop n) args
    else if bytes_eq first (codes "sched") then alone Sched args
    else if bytes_eq first (codes "tick") then tick_item before args
    else if bytes_eq first (codes "to") then to_item before args
    else Err 2

-- one that begins a client, sends, calls, or speaks of a call; else one of those
abbrev pub operation_item : List Item → List ℕ → List (List ℕ) → Reads Item
operation_item before first args =
    if bytes_eq first (codes "client") then alone Client args
    else if bytes_eq first (codes "send") then send_item args
    else if bytes_eq first (codes "call") then call_item args
    else if bytes_eq first (codes "expire") then target_item (λ c i. Expire c i) args
    else if bytes_eq first (codes "join") then target_item (λ c i. Join c i) args
    else later_item before first args

-- what a line of these words says behind these items
abbrev pub item_of : List Item → List (List ℕ) → Reads Item
item_of before [] = Err 2
item_of before (first ∷ args) =
    if bytes_eq first (codes "slots") then of_number (λ n. Slots n) 1 31 args
    else if bytes_eq first (codes "requests") then of_number (λ n. Requests n) 1 4096 args
    else if bytes_eq first (codes "first") then first_item args
    else if bytes_eq first (codes "open") then open_item args
    else operation_item before first args

-- a byte that a line may have: a space or a printable ASCII character
abbrev pub is_text_byte : ℕ → Bool
is_text_byte b = nat_le 32 b && nat_le b 126

-- a line says one item, or nothing where it is empty or begins with `#`, or it has a fault
abbrev pub line_item : List Item → List ℕ → Reads (Option Item)
line_item before [] = Ok None
line_item before (b ∷ bytes) =
    if b == 35 then Ok None
    else if not (list_all is_text_byte (b ∷ bytes)) then Err 1
    else Ok (λ i. Some i) <*> item_of before (words (b ∷ bytes))
