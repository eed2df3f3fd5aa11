-- The parts of a printed script, each as a text of whole lines.
use Rattle.std.specs.Prelude.{ℕ, ◌==◌, ◌||◌, Bool, not, if◌then◌else◌, List, [], ◌∷◌, ◌++◌, flat_map, filter, decimal}
use Rattle.sock_words.specs.PrintedWords.{word}
use Rattle.brpc_model.specs.Items.{Item, Slots, Requests, First, is_size, is_sched, is_turn}
use Rattle.brpc_model.specs.Operations.{slots, requests, first_version}
use Rattle.brpc_model.specs.ScriptText.{item_text, unless_default, scheduled}

-- an operation or the beginning of a client
abbrev pub is_body : Item → Bool
is_body i = not (is_size i || is_sched i || is_turn i)

-- a line and its end
abbrev pub line : Item → List ℕ
line item = item_text item ++ 10 ∷ []

-- a line of a text where it is wanted
abbrev pub line_where : Bool → Item → List ℕ
line_where wanted item = if wanted then line item else []

-- the line of a size, where it differs from its default
abbrev pub size_line : List ℕ → ℕ → ℕ → List ℕ
size_line name default n = if n == default then [] else (name ++ word (decimal n)) ++ 10 ∷ []

-- the lines of these items
abbrev pub lines_text : List Item → List ℕ
lines_text items = flat_map line items

-- the size lines of a script that differ from their defaults
abbrev pub size_items : List Item → List Item
size_items script =
    unless_default 31 (slots script) (Slots (slots script)) ++ unless_default 4096 (requests script) (Requests (requests script)) ++ unless_default 0 (first_version script) (First (first_version script))

-- the setup and the clients
abbrev pub body_items : List Item → List Item
body_items script = filter is_body script

-- the schedule
abbrev pub schedule_items : List Item → List Item
schedule_items script = scheduled (filter is_turn script)
