-- A script as it is printed.
use Rattle.std.specs.Prelude.{ℕ, ◌==◌, ◌||◌, not, if◌then◌else◌, List, [], ◌∷◌, ◌++◌, flat_map, filter, codes, decimal, Option, Some, None}
use Rattle.std.specs.List.{join_with_byte}
use Rattle.sock_words.specs.PrintedWords.{word, hex_text}
use Rattle.brpc_model.specs.Items.{Item, Shape, CallLine, Seat, ClientSeat, ReaderSeat, Slots, Requests, First, Open, Client, Send, Call, Expire, Join, Fail, Hold, Drop, Sched, Tick, To, is_size, is_sched, is_turn}
use Rattle.brpc_model.specs.Operations.{slots, requests, first_version}

-- ` KEY=N` where the number differs from its default
abbrev pub option_text : List ℕ → ℕ → ℕ → List ℕ
option_text key default n = if n == default then [] else 32 ∷ key ++ 61 ∷ decimal n

-- ` end=N` where it is given
abbrev pub end_text : Option ℕ → List ℕ
end_text None = []
end_text (Some n) = codes " end=" ++ decimal n

-- the options of an `open` that differ from their defaults
abbrev pub shape_text : Shape → List ℕ
shape_text s =
    option_text (codes "piece") 65536 s.piece ++ option_text (codes "again") 0 s.again ++ option_text (codes "fail") 0 s.fail
    ++ (if s.serve then codes " serve" else []) ++ end_text s.end

-- ` att=HEX` where it is not empty
abbrev pub att_text : List ℕ → List ℕ
att_text [] = []
att_text (b ∷ bytes) = codes " att=" ++ hex_text (b ∷ bytes)

-- a call
abbrev pub call_text : CallLine → List ℕ
call_text c = codes "call" ++ word (join_with_byte 44 c.names) ++ word (c.service ++ 46 ∷ c.method) ++ word (hex_text c.payload) ++ att_text c.attachment ++ option_text (codes "retry") 0 c.retry

-- `WORD C.I`
abbrev pub target_text : ℕ → ℕ → List ℕ
target_text client number = word (decimal client ++ 46 ∷ decimal number)

-- a seat
abbrev pub seat_text : Seat → List ℕ
seat_text (ClientSeat client) = decimal client
seat_text (ReaderSeat link) = 114 ∷ decimal link

-- a line without its end
abbrev pub item_text : Item → List ℕ
item_text (Slots n) = codes "slots" ++ word (decimal n)
item_text (Requests n) = codes "requests" ++ word (decimal n)
item_text (First v) = codes "first" ++ word (decimal v)
item_text (Open name shape) = codes "open" ++ word name ++ shape_text shape
item_text Client = codes "client"
item_text (Send name bytes) = codes "send" ++ word name ++ word (hex_text bytes)
item_text (Call call) = call_text call
item_text (Expire client number) = codes "expire" ++ target_text client number
item_text (Join client number) = codes "join" ++ target_text client number
item_text (Fail name code) = codes "fail" ++ word name ++ word (decimal code)
item_text (Hold name) = codes "hold" ++ word name
item_text (Drop name) = codes "drop" ++ word name
item_text Sched = codes "sched"
item_text (Tick seat n) = codes "tick" ++ word (seat_text seat) ++ word (decimal n)
item_text (To seat kind) = codes "to" ++ word (seat_text seat) ++ word kind

-- ## The items that are printed, in their order

-- a size line where the size differs from its default
abbrev pub unless_default : ℕ → ℕ → Item → List Item
unless_default default n item = if n == default then [] else item ∷ []

-- the lines of the schedule, behind `sched` where there are any
abbrev pub scheduled : List Item → List Item
scheduled [] = []
scheduled (turn ∷ turns) = Sched ∷ turn ∷ turns

-- the sizes, then setup and clients, then the schedule
abbrev pub printed_items : List Item → List Item
printed_items script =
    unless_default 31 (slots script) (Slots (slots script)) ++ unless_default 4096 (requests script) (Requests (requests script)) ++ unless_default 0 (first_version script) (First (first_version script))
    ++ filter (λ i. not (is_size i || is_sched i || is_turn i)) script
    ++ scheduled (filter is_turn script)

-- the script as a text, a line for each of these
abbrev pub script_text : List Item → List ℕ
script_text script = flat_map (λ item. item_text item ++ 10 ∷ []) (printed_items script)
