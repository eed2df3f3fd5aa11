-- How many bytes the messages of a script carry: those that stand in its lines in hexadecimal.
use Rattle.std.specs.Prelude.{ℕ, ◌+◌, List, [], ◌∷◌, length}
use Rattle.brpc_model.specs.Items.{Item, Send, Call}

-- those of a line: a message, or the payload and the attachment of a call
abbrev pub carried : Item → ℕ
carried (Send name bytes) = length bytes
carried (Call call) = length call.payload + length call.attachment
carried other = 0

-- those of all lines
abbrev pub all_carried : List Item → ℕ
all_carried [] = 0
all_carried (item ∷ items) = carried item + all_carried items
