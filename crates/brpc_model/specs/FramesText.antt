-- What `frames` prints of a stream.
use Rattle.std.specs.Prelude.{ℕ, List, [], ◌∷◌, ◌++◌, flat_map, codes, decimal}
use Rattle.std.specs.Fmt.{signed_decimal}
use Rattle.sock_words.specs.PrintedWords.{word, hex_text}
use Rattle.brpc_model.specs.Wire.{WireFault, Truncated, LongVarint, BadKey, Group}
use Rattle.brpc_model.specs.Meta.{RequestMeta, ResponseMeta, MetaFault, Wrong, NoService, NoMethod, Neither}
use Rattle.brpc_model.specs.Spelling.{where_some}
use Rattle.brpc_model.specs.Frame.{Frame, FrameFault, BadMagic, TooBig, MetaOver, BadMeta, AttachOver}
use Rattle.brpc_model.specs.FrameStream.{Ending, Rest, Fault, stream}

-- ` request SERVICE METHOD`
abbrev pub request_text : RequestMeta → List ℕ
request_text r = codes " request" ++ word (hex_text r.service) ++ word (hex_text r.method)

-- ` response CODE TEXT`
abbrev pub response_text : ResponseMeta → List ℕ
response_text r = codes " response" ++ word (signed_decimal r.code) ++ word (hex_text r.text)

-- `frame`, the request and the response where they are there, and the rest
abbrev pub frame_line : Frame → List ℕ
frame_line f =
    codes "frame" ++ where_some request_text f.meta.request ++ where_some response_text f.meta.response
    ++ codes " id" ++ word (decimal f.meta.correlation_id) ++ codes " compress" ++ word (signed_decimal f.meta.compress_type)
    ++ codes " payload" ++ word (hex_text f.payload) ++ codes " attachment" ++ word (hex_text f.attachment) ++ 10 ∷ []

-- the kind of a wire fault and its place
abbrev pub wire_words : WireFault → List ℕ
wire_words (Truncated at) = word (codes "1") ++ word (decimal at)
wire_words (LongVarint at) = word (codes "2") ++ word (decimal at)
wire_words (BadKey at) = word (codes "3") ++ word (decimal at)
wire_words (Group at) = word (codes "4") ++ word (decimal at)

-- the kind of a meta's fault and its place, 0 where it has none
abbrev pub meta_words : MetaFault → List ℕ
meta_words (Wrong fault) = wire_words fault
meta_words NoService = codes " 5 0"
meta_words NoMethod = codes " 6 0"
meta_words Neither = codes " 7 0"

-- ` KIND A B`
abbrev pub fault_words : FrameFault → List ℕ
fault_words (BadMagic at) = codes " 1" ++ word (decimal at)
fault_words (TooBig size) = codes " 2" ++ word (decimal size)
fault_words (MetaOver meta body) = codes " 3" ++ word (decimal meta) ++ word (decimal body)
fault_words (BadMeta fault) = codes " 4" ++ meta_words fault
fault_words (AttachOver size room) = codes " 5" ++ word (signed_decimal size) ++ word (decimal room)

-- `rest N`, or `fault START KIND A B`
abbrev pub ending_line : Ending → List ℕ
ending_line (Rest n) = codes "rest" ++ word (decimal n) ++ 10 ∷ []
ending_line (Fault start fault) = codes "fault" ++ word (decimal start) ++ fault_words fault ++ 10 ∷ []

-- a line for each frame, and the last line
abbrev pub frames_text : List ℕ → List ℕ
frames_text bytes = flat_map frame_line (stream bytes).frames ++ ending_line (stream bytes).ending
