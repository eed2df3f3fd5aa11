-- The texts of the pieces of a line.
use Rattle.std.specs.Prelude.{ℕ, List, flat_map, decimal}
use Rattle.std.specs.Fmt.{signed_decimal}
use Rattle.sock_words.specs.PrintedWords.{hex_text}
use Rattle.frame_print.specs.declared.piece.Piece.{Piece}
use Rattle.frame_print.specs.declared.piece.Piece.TheVariants.{Text, Number, Signed, Hex, Bytes}
use Rattle.frame_print.specs.FrameLineView.{bytes_viewed}

-- one piece
abbrev pub piece_text : Piece → List ℕ
piece_text (Text text) = text.now
piece_text (Number n) = decimal n
piece_text (Signed n) = signed_decimal n
piece_text (Hex bytes) = hex_text bytes.now
piece_text (Bytes bytes) = hex_text (bytes_viewed bytes)

-- pieces in a row
abbrev pub pieces_text : List Piece → List ℕ
pieces_text pieces = flat_map piece_text pieces
