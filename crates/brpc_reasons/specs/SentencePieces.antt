-- The texts of the pieces of a sentence.
use Rattle.std.specs.Prelude.{ℕ, ◌&&◌, nat_le, nat_lt, if◌then◌else◌, List, ◌++◌, length, take, map, flat_map, codes, decimal}
use Rattle.brpc_reasons.specs.CommandForms.{name, range_text, form_text}
use Rattle.brpc_reasons.specs.declared.piece.Piece.{Piece}
use Rattle.brpc_reasons.specs.declared.piece.Piece.TheVariants.{Text, Number, Name, Range, Form, Shown}

-- a byte where it can be printed, else a question mark
abbrev pub shown_byte : ℕ → ℕ
shown_byte b = if nat_le 32 b && nat_le b 126 then b else 63

-- what closes the quotes round so many bytes: dots before it where they aren't all shown
abbrev pub closing : ℕ → List ℕ
closing count = if nat_lt 72 count then codes "...\"" else codes "\""

-- the first bytes in quotes
abbrev pub shown : List ℕ → List ℕ
shown bytes = codes "\"" ++ (map shown_byte (take 72 bytes) ++ closing (length bytes))

-- one piece
abbrev pub piece_text : Piece → List ℕ
piece_text (Text text) = text.now
piece_text (Number n) = decimal n
piece_text (Name parameter) = name parameter
piece_text (Range parameter) = range_text parameter
piece_text (Form form) = form_text form
piece_text (Shown bytes) = shown bytes.now

-- pieces in a row
abbrev pub pieces_text : List Piece → List ℕ
pieces_text pieces = flat_map piece_text pieces
