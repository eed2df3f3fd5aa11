-- Rows on reports, and on what follows from a script, computed.
use Rattle.std.specs.Prelude.{◌≡◌, ℕ, List, [], ◌∷◌, refl, codes, Some, None, Result, Ok, Err}
use Rattle.hex.specs.Hex.{decode_pairs, encode_with}
use Rattle.std.specs.Fmt.{digits}
use Rattle.sock_words.specs.declared.outcome.Outcome.TheVariants.{Opened, Placed, Dropped, Gone, Answered, CallFailed, Held, Failed, SlotsFull, Freed}
use Rattle.brpc_model.specs.Text.{pairs_in}
use Rattle.brpc_model.specs.Items.{Item}
use Rattle.brpc_model.specs.LinePlaceFaults.{names}
use Rattle.brpc_model.specs.Script.{script_of}
use Rattle.brpc_model.specs.Operations.{Label, Ticks, Until, link_names, attempts, schedule, slots, requests, first_version, clients, name_of}
use Rattle.brpc_model.specs.Report.{report_text}
use Rattle.brpc_model.specs.MessageOfLabel.{message}

-- the bytes that a hexadecimal text spells, and the items of a script
abbrev got : {A B : Type 0} → A → Result A B → A
got none (Ok a) = a
got none (Err b) = none

abbrev spelled : List ℕ → List ℕ
spelled text = got [] (pairs_in (decode_pairs 0 text))

abbrev items_of : List ℕ → List Item
items_of text = got [] (script_of text)

abbrev label : ℕ → ℕ → Label
label i n = record { operation = i; attempt = n }

row_1 : report_text (items_of (codes "open a piece=1\nclient\nsend a 6869\n")) (record { outcomes = Opened 0 0 0 ∷ Placed 0 0 ∷ []; links = record { order = label 1 0 ∷ []; placed = 1; took = spelled (codes "6869") } ∷ [] }) ≡ codes "0.1 open 0 0 0\n1.1 placed 0 0\nlink 0 a accepted 1 placed 1 took 2 6869\norder 0 1.1.0\nend\n"
unfolding decode_pairs encode_with digits
row_1 = refl

row_2 : report_text (items_of (codes "open a serve\nclient\ncall a Echo.Echo 6869\n")) (record { outcomes = Opened 0 0 0 ∷ Answered 1 (104 ∷ 105 ∷ []) [] ∷ []; links = record { order = label 1 0 ∷ []; placed = 1; took = spelled (codes "5052504300000012000000100a0c0a044563686f12044563686f20026869") } ∷ [] }) ≡ codes "0.1 open 0 0 0\n1.1 call 1 answered 6869 -\nlink 0 a accepted 1 placed 1 took 30 5052504300000012000000100a0c0a044563686f12044563686f20026869\norder 0 1.1.0\nend\n"
unfolding decode_pairs encode_with digits
row_2 = refl

row_7 : report_text (items_of (codes "open a piece=3 fail=2\nclient\nsend a 61616161\nclient\nsend a 62626262\nsched\nto 1 C2\nto 2 C3\n")) (record { outcomes = Opened 0 0 0 ∷ Dropped 0 0 ∷ Dropped 0 1 ∷ []; links = record { order = label 1 0 ∷ label 2 0 ∷ []; placed = 0; took = spelled (codes "616161") } ∷ [] }) ≡ codes "0.1 open 0 0 0\n1.1 dropped 0 0\n2.1 dropped 0 1\nlink 0 a accepted 2 placed 0 took 3 616161\norder 0 1.1.0 2.1.0\nend\n"
unfolding decode_pairs encode_with digits
row_7 = refl

row_13 : report_text (items_of (codes "open a serve fail=1\nopen b serve\nclient\ncall a,b Echo.Echo 6869 retry=1\n")) (record { outcomes = Opened 0 0 0 ∷ Opened 1 0 1 ∷ Answered 1 (104 ∷ 105 ∷ []) [] ∷ []; links = record { order = label 2 0 ∷ []; placed = 0; took = spelled (codes "") } ∷ record { order = label 2 1 ∷ []; placed = 1; took = spelled (codes "5052504300000012000000100a0c0a044563686f12044563686f20036869") } ∷ [] }) ≡ codes "0.1 open 0 0 0\n0.2 open 1 0 1\n1.1 call 1 answered 6869 -\nlink 0 a accepted 1 placed 0 took 0 -\norder 0 1.1.0\nlink 1 b accepted 1 placed 1 took 30 5052504300000012000000100a0c0a044563686f12044563686f20036869\norder 1 1.1.1\nend\n"
unfolding decode_pairs encode_with digits
row_13 = refl

row_9 : report_text (items_of (codes "slots 1\nopen a\nclient\nhold a\nfail a 1500\nopen b\ndrop a\nopen c\nsend a 61\n")) (record { outcomes = Opened 0 0 0 ∷ Held ∷ Failed ∷ SlotsFull ∷ Freed ∷ Opened 0 2 2 ∷ Gone (record { 0 = 8589934593 }) ∷ []; links = record { order = []; placed = 0; took = spelled (codes "") } ∷ record { order = []; placed = 0; took = spelled (codes "") } ∷ record { order = []; placed = 0; took = spelled (codes "") } ∷ [] }) ≡ codes "0.1 open 0 0 0\n1.1 held\n1.2 failed\n1.3 slots full\n1.4 freed\n1.5 open 0 2 2\n1.6 gone 0000000200000001\nlink 0 a accepted 0 placed 0 took 0 -\norder 0\nlink 1 b accepted 0 placed 0 took 0 -\norder 1\nlink 2 c accepted 0 placed 0 took 0 -\norder 2\nend\n"
unfolding decode_pairs encode_with digits
row_9 = refl

-- what follows from a script, and the default of a size
abbrev whole : List Item
whole = items_of (codes "slots 3\nrequests 7\nfirst 4\n# c\nopen a serve\nopen b\nclient\ncall a,b Echo.Echo - retry=3\nsend b 61\nclient\nhold c\nsched\ntick 2 5\nto r1 R1\n")

followed : (slots whole ≡ 3) × (requests whole ≡ 7) × (first_version whole ≡ 4) × (slots [] ≡ 31) × (clients whole ≡ 2) × (attempts whole ≡ 5) × (names whole ≡ codes "a" ∷ codes "b" ∷ codes "c" ∷ []) × (link_names whole ≡ codes "a" ∷ codes "b" ∷ []) × (schedule whole ≡ Ticks 2 5 ∷ Until 33 (codes "R1") ∷ []) × (name_of whole (label 2 3) ≡ Some (codes "b")) × (name_of whole (label 2 4) ≡ None)
unfolding decode_pairs encode_with digits
followed = (refl, refl, refl, refl, refl, refl, refl, refl, refl, refl, refl)

message_2 : message (items_of (codes "open a serve\nclient\ncall a Echo.Echo 6869\n")) (Opened 0 0 0 ∷ CallFailed 1 1014 ∷ []) (label 1 0) ≡ spelled (codes "5052504300000012000000100a0c0a044563686f12044563686f20026869")
unfolding decode_pairs encode_with digits
message_2 = refl
