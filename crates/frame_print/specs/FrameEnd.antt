-- The end of a frame's line.
use Rattle.std.specs.Prelude.{ℕ, ℤ, List, [], ◌∷◌, ◌++◌, codes, decimal}
use Rattle.std.specs.Fmt.{signed_decimal}
use Rattle.sock_words.specs.PrintedWords.{word, hex_text}
use Rattle.brpc_model.specs.Frame.{Frame}

-- ` id N compress Z`
abbrev pub numbers_text : ℕ → ℤ → List ℕ
numbers_text id compress = codes " id" ++ word (decimal id) ++ codes " compress" ++ word (signed_decimal compress)

-- ` payload HEX attachment HEX` and the end of the line
abbrev pub bytes_text : List ℕ → List ℕ → List ℕ
bytes_text payload attachment = codes " payload" ++ word (hex_text payload) ++ codes " attachment" ++ word (hex_text attachment) ++ 10 ∷ []

-- what stands behind the request and the response
abbrev pub end_text : Frame → List ℕ
end_text f = numbers_text f.meta.correlation_id f.meta.compress_type ++ bytes_text f.payload f.attachment
