-- Drawn scripts and schedules, against a plain program: the kind of each tick's step, and the outcomes, place words and bytes taken at the end.
use Rattle.std.specs.Prelude.{◌≡◌, ℕ, List, [], ◌∷◌, refl, codes, Some, None, Result, Ok, Err, Option, pos}
use Rattle.hex.specs.Hex.{decode_pairs, encode_with}
use Rattle.std.specs.Fmt.{digits}
use Rattle.sock_words.specs.declared.outcome.Outcome.{Outcome}
use Rattle.sock_words.specs.declared.outcome.Outcome.TheVariants.{Opened, SlotsFull, Unopened, Gone, Full, Answered, Peer, CallFailed, Held, Kept, Failed, Expired, Late, Joined, NotBegun}
use Rattle.brpc_model.specs.Items.{Item}
use Rattle.brpc_model.specs.Script.{script_of}
use Rattle.call_rows.specs.Driven.{trace_of, final_from, told_of}

abbrev got : {A B : Type 0} → A → Result A B → A
got none (Ok a) = a
got none (Err b) = none

abbrev items_of : List ℕ → List Item
items_of text = got [] (script_of text)

-- where these seats make the ticks of the script, its steps are of these kinds, and it ends with this
abbrev Draws : List ℕ → List ℕ → List (List ℕ) → List (Option Outcome) × List (ℕ × ℕ) × List (List ℕ) → Type 0
Draws text seats kinds told = (trace_of (items_of text) seats ≡ kinds) × (told_of (final_from (items_of text) seats) ≡ told)

row_s1_0 : Draws (codes "slots 1\nrequests 1\nopen a fail=2 serve end=1\nopen b again=2 serve\nclient\nopen b piece=1 fail=2 serve\nhold a\nsend b 626364\nclient\ncall b,a Echo.Echo 6869\njoin 2.1\nsend b 61\n") (1 ∷ 1 ∷ 32 ∷ 2 ∷ 34 ∷ 32 ∷ 2 ∷ 32 ∷ 34 ∷ 1 ∷ 2 ∷ 2 ∷ 33 ∷ 34 ∷ 2 ∷ 2 ∷ 33 ∷ 2 ∷ 1 ∷ 32 ∷ 33 ∷ 34 ∷ 33 ∷ 33 ∷ 1 ∷ 1 ∷ 2 ∷ 33 ∷ 32 ∷ 1 ∷ 34 ∷ 2 ∷ 32 ∷ 34 ∷ 2 ∷ 1 ∷ 2 ∷ 33 ∷ 1 ∷ 2 ∷ 1 ∷ 1 ∷ 33 ∷ 34 ∷ 32 ∷ 32 ∷ 32 ∷ 2 ∷ 33 ∷ 2 ∷ 2 ∷ 32 ∷ 2 ∷ 1 ∷ 34 ∷ 2 ∷ 32 ∷ 34 ∷ 32 ∷ 2 ∷ 2 ∷ 32 ∷ 1 ∷ 34 ∷ 32 ∷ 1 ∷ 2 ∷ 1 ∷ 33 ∷ 32 ∷ 32 ∷ 33 ∷ 1 ∷ 2 ∷ 34 ∷ 34 ∷ 34 ∷ 33 ∷ 32 ∷ 34 ∷ 2 ∷ 32 ∷ 34 ∷ 32 ∷ 2 ∷ 2 ∷ 1 ∷ 2 ∷ 34 ∷ 1 ∷ 32 ∷ 32 ∷ 2 ∷ 32 ∷ 2 ∷ 2 ∷ 34 ∷ 1 ∷ 2 ∷ 1 ∷ 1 ∷ 32 ∷ 32 ∷ 32 ∷ 34 ∷ 32 ∷ 1 ∷ 2 ∷ 32 ∷ 1 ∷ 34 ∷ 2 ∷ 33 ∷ 2 ∷ 32 ∷ 32 ∷ 2 ∷ 34 ∷ 1 ∷ 34 ∷ 32 ∷ 34 ∷ 34 ∷ 34 ∷ 1 ∷ 1 ∷ 34 ∷ 33 ∷ 1 ∷ 1 ∷ 34 ∷ 1 ∷ 2 ∷ 1 ∷ 34 ∷ 34 ∷ 1 ∷ 2 ∷ 1 ∷ 1 ∷ 34 ∷ 32 ∷ 2 ∷ 1 ∷ 1 ∷ 1 ∷ 2 ∷ 2 ∷ 1 ∷ 32 ∷ 2 ∷ 33 ∷ 1 ∷ 33 ∷ 33 ∷ 1 ∷ 2 ∷ 33 ∷ 1 ∷ 2 ∷ []) (codes "A1" ∷ codes "L1" ∷ codes "S7" ∷ codes "S7" ∷ [] ∷ [] ∷ codes "T2" ∷ [] ∷ [] ∷ codes "W3" ∷ codes "S7" ∷ [] ∷ codes "S7" ∷ [] ∷ [] ∷ [] ∷ [] ∷ [] ∷ codes "L2" ∷ [] ∷ [] ∷ [] ∷ [] ∷ [] ∷ codes "S6" ∷ codes "S7" ∷ [] ∷ [] ∷ [] ∷ codes "A3" ∷ codes "S7" ∷ [] ∷ [] ∷ [] ∷ [] ∷ codes "S7" ∷ [] ∷ [] ∷ codes "A4" ∷ [] ∷ [] ∷ [] ∷ [] ∷ [] ∷ [] ∷ [] ∷ [] ∷ [] ∷ [] ∷ [] ∷ [] ∷ [] ∷ [] ∷ [] ∷ [] ∷ [] ∷ [] ∷ [] ∷ [] ∷ [] ∷ [] ∷ [] ∷ [] ∷ [] ∷ [] ∷ [] ∷ [] ∷ [] ∷ [] ∷ [] ∷ [] ∷ [] ∷ [] ∷ [] ∷ [] ∷ [] ∷ [] ∷ [] ∷ [] ∷ [] ∷ [] ∷ [] ∷ [] ∷ [] ∷ [] ∷ [] ∷ [] ∷ [] ∷ [] ∷ [] ∷ [] ∷ [] ∷ [] ∷ [] ∷ [] ∷ [] ∷ [] ∷ [] ∷ [] ∷ [] ∷ [] ∷ [] ∷ [] ∷ [] ∷ [] ∷ [] ∷ [] ∷ [] ∷ [] ∷ [] ∷ [] ∷ [] ∷ [] ∷ [] ∷ [] ∷ [] ∷ [] ∷ [] ∷ [] ∷ [] ∷ [] ∷ [] ∷ [] ∷ [] ∷ [] ∷ [] ∷ [] ∷ [] ∷ [] ∷ [] ∷ [] ∷ [] ∷ [] ∷ [] ∷ [] ∷ [] ∷ [] ∷ [] ∷ [] ∷ [] ∷ [] ∷ [] ∷ [] ∷ [] ∷ [] ∷ [] ∷ [] ∷ [] ∷ [] ∷ [] ∷ [] ∷ [] ∷ [] ∷ [] ∷ [] ∷ [] ∷ [] ∷ [] ∷ [] ∷ [] ∷ []) (Some (Opened 0 0 0) ∷ Some (SlotsFull) ∷ Some (SlotsFull) ∷ Some (Held) ∷ Some (Unopened) ∷ Some (Unopened) ∷ Some (NotBegun) ∷ Some (Unopened) ∷ [], [], ([]) ∷ ([]) ∷ ([]) ∷ [])
unfolding decode_pairs encode_with digits
row_s1_0 = (refl, refl)

row_s1_1 : Draws (codes "slots 2\nrequests 1\nopen a serve\nclient\ncall a No.Op 61 retry=2\nhold a\nsend a 61\nclient\nsend a 61\nexpire 1.1\njoin 1.1\n") (1 ∷ 1 ∷ 2 ∷ 2 ∷ 1 ∷ 1 ∷ 1 ∷ 1 ∷ 1 ∷ 1 ∷ 2 ∷ 2 ∷ 32 ∷ 1 ∷ 2 ∷ 1 ∷ 32 ∷ 1 ∷ 32 ∷ 2 ∷ 32 ∷ 2 ∷ 2 ∷ 32 ∷ 32 ∷ 1 ∷ 2 ∷ 2 ∷ 1 ∷ 1 ∷ 2 ∷ 32 ∷ 2 ∷ 32 ∷ 2 ∷ 2 ∷ 1 ∷ 2 ∷ 1 ∷ 32 ∷ 2 ∷ 1 ∷ 1 ∷ 32 ∷ 2 ∷ 1 ∷ 1 ∷ 2 ∷ 2 ∷ 1 ∷ 32 ∷ 2 ∷ 1 ∷ 2 ∷ 2 ∷ 1 ∷ 1 ∷ 2 ∷ 32 ∷ 1 ∷ 32 ∷ 2 ∷ 32 ∷ 2 ∷ 1 ∷ 1 ∷ 1 ∷ 2 ∷ 2 ∷ 2 ∷ 32 ∷ 2 ∷ 1 ∷ 1 ∷ 32 ∷ 32 ∷ 1 ∷ 1 ∷ 1 ∷ 1 ∷ 1 ∷ 1 ∷ 2 ∷ 32 ∷ 2 ∷ 2 ∷ 32 ∷ 32 ∷ 1 ∷ 1 ∷ 1 ∷ 2 ∷ 1 ∷ 2 ∷ 2 ∷ 2 ∷ 1 ∷ 1 ∷ 32 ∷ 32 ∷ 2 ∷ 1 ∷ 32 ∷ 32 ∷ 2 ∷ 32 ∷ 1 ∷ 1 ∷ 1 ∷ 1 ∷ 32 ∷ 32 ∷ 1 ∷ 2 ∷ 1 ∷ 1 ∷ 1 ∷ 1 ∷ 1 ∷ 32 ∷ 1 ∷ 1 ∷ 2 ∷ 1 ∷ 1 ∷ 2 ∷ 2 ∷ 32 ∷ 2 ∷ 2 ∷ 1 ∷ 2 ∷ 2 ∷ 2 ∷ 2 ∷ 1 ∷ 2 ∷ 2 ∷ 32 ∷ 1 ∷ 32 ∷ 1 ∷ 2 ∷ 1 ∷ 1 ∷ 2 ∷ 1 ∷ 1 ∷ 1 ∷ 1 ∷ 1 ∷ 32 ∷ 1 ∷ 2 ∷ 2 ∷ 1 ∷ 2 ∷ 1 ∷ 1 ∷ 1 ∷ []) (codes "S7" ∷ codes "I1" ∷ codes "S7" ∷ codes "A3" ∷ codes "K1" ∷ codes "I2" ∷ codes "T1" ∷ codes "A3" ∷ codes "S2" ∷ codes "T1" ∷ codes "A8" ∷ codes "C1" ∷ codes "S7" ∷ codes "A8" ∷ codes "M1" ∷ codes "C1" ∷ [] ∷ codes "I7" ∷ [] ∷ codes "C7" ∷ [] ∷ codes "C2" ∷ codes "S2" ∷ [] ∷ [] ∷ codes "I4" ∷ codes "L1" ∷ codes "M2" ∷ codes "K2" ∷ codes "K1" ∷ codes "A8" ∷ [] ∷ codes "W1" ∷ codes "R1" ∷ codes "P1" ∷ codes "C8" ∷ codes "I5" ∷ codes "L2" ∷ codes "A4" ∷ codes "A3" ∷ codes "C4" ∷ codes "I7" ∷ codes "I3" ∷ codes "A5" ∷ codes "A4" ∷ codes "K2" ∷ codes "K1" ∷ codes "T2" ∷ codes "I7" ∷ codes "I5" ∷ codes "S4" ∷ codes "I4" ∷ codes "S7" ∷ codes "I4" ∷ codes "K2" ∷ codes "A3" ∷ codes "A4" ∷ codes "I6" ∷ codes "A4" ∷ codes "I7" ∷ codes "A4" ∷ codes "I8" ∷ codes "A6" ∷ codes "T2" ∷ codes "S7" ∷ codes "A3" ∷ codes "A4" ∷ codes "I7" ∷ [] ∷ [] ∷ codes "S2" ∷ [] ∷ codes "S7" ∷ codes "A3" ∷ codes "L1" ∷ codes "W3" ∷ codes "A4" ∷ [] ∷ [] ∷ [] ∷ [] ∷ [] ∷ [] ∷ codes "L2" ∷ [] ∷ [] ∷ codes "A7" ∷ codes "T2" ∷ [] ∷ [] ∷ [] ∷ [] ∷ [] ∷ [] ∷ [] ∷ [] ∷ [] ∷ [] ∷ codes "I7" ∷ [] ∷ [] ∷ [] ∷ [] ∷ [] ∷ [] ∷ [] ∷ [] ∷ [] ∷ [] ∷ [] ∷ [] ∷ [] ∷ [] ∷ [] ∷ [] ∷ [] ∷ [] ∷ [] ∷ [] ∷ [] ∷ [] ∷ [] ∷ [] ∷ [] ∷ [] ∷ [] ∷ [] ∷ [] ∷ [] ∷ [] ∷ [] ∷ [] ∷ [] ∷ [] ∷ [] ∷ [] ∷ [] ∷ [] ∷ [] ∷ [] ∷ [] ∷ [] ∷ [] ∷ [] ∷ [] ∷ [] ∷ [] ∷ [] ∷ [] ∷ [] ∷ [] ∷ [] ∷ [] ∷ [] ∷ [] ∷ [] ∷ [] ∷ [] ∷ [] ∷ [] ∷ []) (Some (Opened 0 0 0) ∷ Some (CallFailed 1 1008) ∷ Some (Gone (record { 0 = 8589934592 })) ∷ Some (Gone (record { 0 = 8589934592 })) ∷ None ∷ Some (Expired) ∷ Some (Joined) ∷ [], (32, 1) ∷ [], (97 ∷ []) ∷ [])
unfolding decode_pairs encode_with digits
row_s1_1 = (refl, refl)

row_s1_2 : Draws (codes "slots 3\nrequests 8\nopen a serve\nclient\ncall a Echo.Reverse 6869 retry=1\ncall a Sum.Bytes 61 att=01 retry=1\nclient\ncall a Sum.Bytes 61 att=01\nclient\njoin 1.1\ncall a Sum.Bytes - retry=2\ncall a Sum.Bytes 6869 att=01\n") (1 ∷ 2 ∷ 32 ∷ 32 ∷ 3 ∷ 1 ∷ 2 ∷ 3 ∷ 2 ∷ 2 ∷ 32 ∷ 2 ∷ 2 ∷ 32 ∷ 32 ∷ 3 ∷ 3 ∷ 1 ∷ 3 ∷ 2 ∷ 32 ∷ 2 ∷ 3 ∷ 2 ∷ 2 ∷ 2 ∷ 2 ∷ 3 ∷ 1 ∷ 32 ∷ 3 ∷ 32 ∷ 2 ∷ 32 ∷ 3 ∷ 2 ∷ 32 ∷ 3 ∷ 3 ∷ 2 ∷ 2 ∷ 3 ∷ 1 ∷ 2 ∷ 2 ∷ 1 ∷ 3 ∷ 32 ∷ 3 ∷ 2 ∷ 3 ∷ 32 ∷ 1 ∷ 3 ∷ 1 ∷ 32 ∷ 1 ∷ 2 ∷ 3 ∷ 2 ∷ 1 ∷ 32 ∷ 2 ∷ 1 ∷ 1 ∷ 1 ∷ 32 ∷ 3 ∷ 2 ∷ 3 ∷ 1 ∷ 1 ∷ 32 ∷ 3 ∷ 1 ∷ 2 ∷ 1 ∷ 1 ∷ 3 ∷ 3 ∷ 2 ∷ 2 ∷ 2 ∷ 2 ∷ 2 ∷ 3 ∷ 32 ∷ 3 ∷ 1 ∷ 2 ∷ 1 ∷ 2 ∷ 2 ∷ 1 ∷ 2 ∷ 1 ∷ 1 ∷ 2 ∷ 2 ∷ 3 ∷ 2 ∷ 3 ∷ 1 ∷ 3 ∷ 3 ∷ 3 ∷ 2 ∷ 2 ∷ 3 ∷ 1 ∷ 3 ∷ 1 ∷ 2 ∷ 3 ∷ 1 ∷ 3 ∷ 2 ∷ 2 ∷ 3 ∷ 3 ∷ 3 ∷ 3 ∷ 2 ∷ 1 ∷ 1 ∷ 32 ∷ 2 ∷ 3 ∷ 3 ∷ 2 ∷ 2 ∷ 32 ∷ 32 ∷ 2 ∷ 3 ∷ 3 ∷ 3 ∷ 3 ∷ 32 ∷ 2 ∷ 3 ∷ 2 ∷ 3 ∷ 3 ∷ 3 ∷ 1 ∷ 2 ∷ 1 ∷ 32 ∷ 1 ∷ 2 ∷ 2 ∷ 2 ∷ 1 ∷ 2 ∷ 2 ∷ 3 ∷ 1 ∷ 2 ∷ 2 ∷ []) (codes "S7" ∷ codes "S7" ∷ codes "S7" ∷ [] ∷ codes "T2" ∷ codes "I1" ∷ codes "I1" ∷ codes "S7" ∷ codes "I1" ∷ codes "K1" ∷ [] ∷ codes "I2" ∷ codes "T1" ∷ [] ∷ [] ∷ codes "I1" ∷ codes "I1" ∷ codes "K1" ∷ codes "I1" ∷ codes "A3" ∷ [] ∷ codes "S2" ∷ codes "K1" ∷ codes "T1" ∷ codes "A8" ∷ codes "C1" ∷ codes "M1" ∷ codes "I2" ∷ codes "I2" ∷ [] ∷ codes "T1" ∷ [] ∷ codes "C7" ∷ [] ∷ codes "A3" ∷ codes "C2" ∷ [] ∷ codes "S2" ∷ codes "T1" ∷ codes "S2" ∷ codes "L1" ∷ codes "A8" ∷ codes "T1" ∷ codes "M2" ∷ codes "A8" ∷ codes "A3" ∷ codes "C1" ∷ [] ∷ codes "C1" ∷ codes "W1" ∷ codes "M1" ∷ [] ∷ codes "S2" ∷ codes "C7" ∷ codes "T1" ∷ [] ∷ codes "A8" ∷ codes "A8" ∷ codes "C2" ∷ codes "W1" ∷ codes "C1" ∷ [] ∷ codes "A8" ∷ codes "C1" ∷ codes "C1" ∷ codes "M1" ∷ [] ∷ codes "C3" ∷ codes "W1" ∷ codes "A4" ∷ codes "C7" ∷ codes "C2" ∷ codes "R1" ∷ codes "S7" ∷ codes "C3" ∷ codes "P1" ∷ codes "A4" ∷ codes "S7" ∷ codes "I1" ∷ codes "I1" ∷ codes "C8" ∷ codes "L2" ∷ codes "C4" ∷ codes "L1" ∷ codes "C5" ∷ codes "I1" ∷ codes "I7" ∷ codes "I1" ∷ codes "I1" ∷ codes "C6" ∷ codes "I1" ∷ codes "C5" ∷ codes "C6" ∷ codes "I1" ∷ codes "M2" ∷ codes "I1" ∷ codes "I1" ∷ codes "A8" ∷ codes "W1" ∷ codes "K1" ∷ codes "P1" ∷ codes "I2" ∷ codes "K1" ∷ codes "T1" ∷ codes "A3" ∷ codes "S2" ∷ codes "C5" ∷ codes "C8" ∷ codes "T1" ∷ codes "I2" ∷ codes "A8" ∷ codes "T1" ∷ codes "M2" ∷ codes "C1" ∷ codes "A3" ∷ codes "M1" ∷ codes "A8" ∷ codes "W1" ∷ codes "C7" ∷ codes "C2" ∷ codes "C3" ∷ codes "A4" ∷ codes "A8" ∷ codes "S2" ∷ codes "T1" ∷ codes "I3" ∷ codes "W1" ∷ [] ∷ [] ∷ codes "P1" ∷ codes "C8" ∷ codes "K2" ∷ codes "I6" ∷ codes "L2" ∷ [] ∷ [] ∷ [] ∷ [] ∷ codes "I8" ∷ codes "C4" ∷ [] ∷ codes "L1" ∷ [] ∷ [] ∷ [] ∷ codes "A8" ∷ codes "C5" ∷ codes "C1" ∷ codes "R1" ∷ codes "C1" ∷ codes "C6" ∷ codes "M2" ∷ codes "A8" ∷ codes "M1" ∷ codes "W1" ∷ codes "A8" ∷ [] ∷ codes "C7" ∷ codes "W1" ∷ codes "A8" ∷ []) (Some (Opened 0 0 0) ∷ Some (Answered 1 (105 ∷ 104 ∷ []) []) ∷ Some (Answered 17179869185 (0 ∷ 0 ∷ 0 ∷ 0 ∷ 0 ∷ 0 ∷ 0 ∷ 97 ∷ []) []) ∷ Some (Answered 4294967297 (0 ∷ 0 ∷ 0 ∷ 0 ∷ 0 ∷ 0 ∷ 0 ∷ 97 ∷ []) []) ∷ Some (NotBegun) ∷ Some (Answered 8589934593 (0 ∷ 0 ∷ 0 ∷ 0 ∷ 0 ∷ 0 ∷ 0 ∷ 0 ∷ []) []) ∷ Some (Answered 12884901889 (0 ∷ 0 ∷ 0 ∷ 0 ∷ 0 ∷ 0 ∷ 0 ∷ 209 ∷ []) []) ∷ [], (8, 3) ∷ (16, 5) ∷ (24, 1) ∷ (40, 2) ∷ (48, 4) ∷ [], (80 ∷ 82 ∷ 80 ∷ 67 ∷ 0 ∷ 0 ∷ 0 ∷ 24 ∷ 0 ∷ 0 ∷ 0 ∷ 22 ∷ 10 ∷ 12 ∷ 10 ∷ 3 ∷ 83 ∷ 117 ∷ 109 ∷ 18 ∷ 5 ∷ 66 ∷ 121 ∷ 116 ∷ 101 ∷ 115 ∷ 32 ∷ 130 ∷ 128 ∷ 128 ∷ 128 ∷ 16 ∷ 40 ∷ 1 ∷ 97 ∷ 1 ∷ 80 ∷ 82 ∷ 80 ∷ 67 ∷ 0 ∷ 0 ∷ 0 ∷ 20 ∷ 0 ∷ 0 ∷ 0 ∷ 20 ∷ 10 ∷ 12 ∷ 10 ∷ 3 ∷ 83 ∷ 117 ∷ 109 ∷ 18 ∷ 5 ∷ 66 ∷ 121 ∷ 116 ∷ 101 ∷ 115 ∷ 32 ∷ 130 ∷ 128 ∷ 128 ∷ 128 ∷ 32 ∷ 80 ∷ 82 ∷ 80 ∷ 67 ∷ 0 ∷ 0 ∷ 0 ∷ 21 ∷ 0 ∷ 0 ∷ 0 ∷ 19 ∷ 10 ∷ 15 ∷ 10 ∷ 4 ∷ 69 ∷ 99 ∷ 104 ∷ 111 ∷ 18 ∷ 7 ∷ 82 ∷ 101 ∷ 118 ∷ 101 ∷ 114 ∷ 115 ∷ 101 ∷ 32 ∷ 2 ∷ 104 ∷ 105 ∷ 80 ∷ 82 ∷ 80 ∷ 67 ∷ 0 ∷ 0 ∷ 0 ∷ 25 ∷ 0 ∷ 0 ∷ 0 ∷ 22 ∷ 10 ∷ 12 ∷ 10 ∷ 3 ∷ 83 ∷ 117 ∷ 109 ∷ 18 ∷ 5 ∷ 66 ∷ 121 ∷ 116 ∷ 101 ∷ 115 ∷ 32 ∷ 130 ∷ 128 ∷ 128 ∷ 128 ∷ 48 ∷ 40 ∷ 1 ∷ 104 ∷ 105 ∷ 1 ∷ 80 ∷ 82 ∷ 80 ∷ 67 ∷ 0 ∷ 0 ∷ 0 ∷ 24 ∷ 0 ∷ 0 ∷ 0 ∷ 22 ∷ 10 ∷ 12 ∷ 10 ∷ 3 ∷ 83 ∷ 117 ∷ 109 ∷ 18 ∷ 5 ∷ 66 ∷ 121 ∷ 116 ∷ 101 ∷ 115 ∷ 32 ∷ 130 ∷ 128 ∷ 128 ∷ 128 ∷ 64 ∷ 40 ∷ 1 ∷ 97 ∷ 1 ∷ []) ∷ [])
unfolding decode_pairs encode_with digits
row_s1_2 = (refl, refl)

row_s1_3 : Draws (codes "slots 3\nrequests 1\nopen a fail=3\nopen b piece=7\nclient\nfail a 1501\nfail a 1501\nopen b\nclient\nhold a\ncall b,a Echo.Reverse 6869\n") (32 ∷ 2 ∷ 32 ∷ 1 ∷ 1 ∷ 33 ∷ 32 ∷ 2 ∷ 34 ∷ 1 ∷ 2 ∷ 2 ∷ 1 ∷ 2 ∷ 32 ∷ 2 ∷ 1 ∷ 1 ∷ 32 ∷ 34 ∷ 1 ∷ 34 ∷ 33 ∷ 2 ∷ 34 ∷ 34 ∷ 34 ∷ 34 ∷ 2 ∷ 32 ∷ 1 ∷ 2 ∷ 2 ∷ 34 ∷ 1 ∷ 34 ∷ 2 ∷ 32 ∷ 2 ∷ 2 ∷ 1 ∷ 34 ∷ 1 ∷ 34 ∷ 1 ∷ 1 ∷ 32 ∷ 33 ∷ 1 ∷ 32 ∷ 1 ∷ 33 ∷ 34 ∷ 33 ∷ 33 ∷ 2 ∷ 1 ∷ 32 ∷ 1 ∷ 32 ∷ 34 ∷ 1 ∷ 2 ∷ 32 ∷ 33 ∷ 1 ∷ 34 ∷ 32 ∷ 1 ∷ 1 ∷ 1 ∷ 2 ∷ 33 ∷ 2 ∷ 1 ∷ 1 ∷ 32 ∷ 2 ∷ 1 ∷ 34 ∷ 33 ∷ 33 ∷ 32 ∷ 2 ∷ 1 ∷ 33 ∷ 2 ∷ 2 ∷ 2 ∷ 32 ∷ 1 ∷ 1 ∷ 33 ∷ 32 ∷ 33 ∷ 33 ∷ 34 ∷ 33 ∷ 32 ∷ 2 ∷ 2 ∷ 32 ∷ 34 ∷ 32 ∷ 2 ∷ 33 ∷ 33 ∷ 1 ∷ 33 ∷ 2 ∷ 2 ∷ 32 ∷ 33 ∷ 32 ∷ 2 ∷ 1 ∷ 32 ∷ 1 ∷ 33 ∷ 2 ∷ 32 ∷ 2 ∷ 2 ∷ 1 ∷ 34 ∷ 32 ∷ 32 ∷ 33 ∷ 33 ∷ 33 ∷ 1 ∷ 2 ∷ 33 ∷ 2 ∷ 33 ∷ 33 ∷ 1 ∷ 33 ∷ 1 ∷ 2 ∷ 33 ∷ 33 ∷ 2 ∷ 33 ∷ 34 ∷ 2 ∷ 34 ∷ 1 ∷ 34 ∷ 2 ∷ 34 ∷ 1 ∷ 34 ∷ 34 ∷ 32 ∷ 1 ∷ 1 ∷ 1 ∷ 34 ∷ 33 ∷ []) (codes "S7" ∷ codes "S7" ∷ [] ∷ codes "S7" ∷ codes "A3" ∷ codes "S7" ∷ [] ∷ codes "A3" ∷ [] ∷ codes "A5" ∷ codes "S7" ∷ codes "I1" ∷ codes "S4" ∷ codes "K1" ∷ [] ∷ codes "I2" ∷ codes "A4" ∷ codes "A4" ∷ [] ∷ [] ∷ codes "S7" ∷ [] ∷ [] ∷ codes "T1" ∷ [] ∷ [] ∷ [] ∷ [] ∷ codes "A3" ∷ [] ∷ codes "A3" ∷ codes "S2" ∷ codes "T1" ∷ [] ∷ codes "A4" ∷ [] ∷ codes "A8" ∷ [] ∷ codes "C1" ∷ codes "M1" ∷ codes "A1" ∷ [] ∷ codes "A1" ∷ [] ∷ codes "A1" ∷ codes "S1" ∷ [] ∷ [] ∷ codes "S3" ∷ [] ∷ codes "S4" ∷ [] ∷ [] ∷ [] ∷ [] ∷ codes "C7" ∷ codes "A2" ∷ [] ∷ codes "S6" ∷ [] ∷ codes "S7" ∷ codes "S6" ∷ codes "C2" ∷ [] ∷ [] ∷ [] ∷ [] ∷ [] ∷ [] ∷ [] ∷ [] ∷ codes "S2" ∷ [] ∷ codes "L1" ∷ [] ∷ [] ∷ [] ∷ codes "M2" ∷ [] ∷ [] ∷ [] ∷ [] ∷ [] ∷ codes "A8" ∷ [] ∷ [] ∷ codes "W1" ∷ codes "A8" ∷ codes "W1" ∷ [] ∷ [] ∷ [] ∷ [] ∷ [] ∷ [] ∷ [] ∷ [] ∷ [] ∷ [] ∷ codes "A8" ∷ codes "W1" ∷ [] ∷ [] ∷ [] ∷ codes "A8" ∷ [] ∷ [] ∷ [] ∷ [] ∷ codes "W1" ∷ codes "A8" ∷ [] ∷ [] ∷ [] ∷ codes "W1" ∷ [] ∷ [] ∷ [] ∷ [] ∷ codes "A8" ∷ [] ∷ codes "W1" ∷ codes "P1" ∷ [] ∷ [] ∷ [] ∷ [] ∷ [] ∷ [] ∷ [] ∷ [] ∷ codes "C8" ∷ [] ∷ codes "L2" ∷ [] ∷ [] ∷ [] ∷ [] ∷ [] ∷ codes "C4" ∷ [] ∷ [] ∷ codes "A4" ∷ [] ∷ [] ∷ codes "A4" ∷ [] ∷ [] ∷ [] ∷ codes "A6" ∷ [] ∷ [] ∷ [] ∷ [] ∷ [] ∷ [] ∷ [] ∷ [] ∷ [] ∷ [] ∷ []) (Some (Opened 0 0 0) ∷ Some (Opened 1 0 1) ∷ Some (Failed) ∷ Some (Gone (record { 0 = 4294967297 })) ∷ Some (Opened 2 0 2) ∷ Some (Held) ∷ Some (CallFailed 1 1014) ∷ [], (48, 4294967297) ∷ [], ([]) ∷ (80 ∷ 82 ∷ 80 ∷ 67 ∷ 0 ∷ 0 ∷ 0 ∷ 21 ∷ 0 ∷ 0 ∷ 0 ∷ 19 ∷ 10 ∷ 15 ∷ 10 ∷ 4 ∷ 69 ∷ 99 ∷ 104 ∷ 111 ∷ 18 ∷ 7 ∷ 82 ∷ 101 ∷ 118 ∷ 101 ∷ 114 ∷ 115 ∷ 101 ∷ 32 ∷ 2 ∷ 104 ∷ 105 ∷ []) ∷ ([]) ∷ [])
unfolding decode_pairs encode_with digits
row_s1_3 = (refl, refl)

row_s1_4 : Draws (codes "slots 2\nrequests 4\nopen a piece=30 again=2 serve\nclient\ncall a Echo.Reverse - retry=1\nclient\njoin 1.1\nexpire 1.1\ncall a Sum.Bytes 6869\nclient\njoin 2.3\njoin 2.3\nclient\ncall a Sum.Bytes - retry=1\nhold a\nfail a 1501\n") (2 ∷ 3 ∷ 4 ∷ 1 ∷ 4 ∷ 2 ∷ 3 ∷ 4 ∷ 3 ∷ 1 ∷ 4 ∷ 32 ∷ 3 ∷ 3 ∷ 3 ∷ 4 ∷ 2 ∷ 1 ∷ 3 ∷ 4 ∷ 2 ∷ 4 ∷ 1 ∷ 2 ∷ 2 ∷ 4 ∷ 3 ∷ 2 ∷ 4 ∷ 2 ∷ 3 ∷ 1 ∷ 1 ∷ 1 ∷ 4 ∷ 1 ∷ 4 ∷ 32 ∷ 4 ∷ 2 ∷ 1 ∷ 2 ∷ 3 ∷ 2 ∷ 4 ∷ 3 ∷ 4 ∷ 4 ∷ 4 ∷ 3 ∷ 3 ∷ 4 ∷ 4 ∷ 1 ∷ 4 ∷ 32 ∷ 3 ∷ 4 ∷ 4 ∷ 1 ∷ 2 ∷ 4 ∷ 2 ∷ 4 ∷ 2 ∷ 1 ∷ 1 ∷ 1 ∷ 4 ∷ 2 ∷ 3 ∷ 1 ∷ 4 ∷ 3 ∷ 3 ∷ 3 ∷ 1 ∷ 1 ∷ 3 ∷ 3 ∷ 32 ∷ 1 ∷ 3 ∷ 1 ∷ 3 ∷ 2 ∷ 4 ∷ 1 ∷ 1 ∷ 1 ∷ 32 ∷ 1 ∷ 32 ∷ 3 ∷ 1 ∷ 1 ∷ 2 ∷ 3 ∷ 2 ∷ 4 ∷ 1 ∷ 4 ∷ 3 ∷ 1 ∷ 4 ∷ 4 ∷ 3 ∷ 2 ∷ 1 ∷ 1 ∷ 4 ∷ 4 ∷ 1 ∷ 3 ∷ 2 ∷ 3 ∷ 32 ∷ 32 ∷ 1 ∷ 2 ∷ 32 ∷ 3 ∷ 32 ∷ 4 ∷ 32 ∷ 3 ∷ 2 ∷ 1 ∷ 2 ∷ 1 ∷ 3 ∷ 2 ∷ 3 ∷ 1 ∷ 4 ∷ 3 ∷ 1 ∷ 1 ∷ 2 ∷ 32 ∷ 4 ∷ 32 ∷ 2 ∷ 2 ∷ 2 ∷ 1 ∷ 3 ∷ 32 ∷ 1 ∷ 4 ∷ 3 ∷ 3 ∷ 4 ∷ 1 ∷ 32 ∷ 1 ∷ 2 ∷ 1 ∷ 2 ∷ 2 ∷ []) (codes "T2" ∷ codes "T2" ∷ codes "S7" ∷ codes "S7" ∷ codes "I1" ∷ codes "T2" ∷ codes "T2" ∷ codes "K1" ∷ [] ∷ codes "I1" ∷ codes "I2" ∷ codes "S7" ∷ [] ∷ [] ∷ [] ∷ codes "T1" ∷ codes "S7" ∷ codes "I1" ∷ [] ∷ codes "A3" ∷ codes "I1" ∷ codes "S2" ∷ codes "K1" ∷ codes "I1" ∷ codes "I1" ∷ codes "T1" ∷ [] ∷ codes "K1" ∷ codes "A8" ∷ codes "I2" ∷ [] ∷ codes "I2" ∷ codes "T1" ∷ codes "A3" ∷ codes "C1" ∷ codes "S2" ∷ codes "M1" ∷ [] ∷ codes "C7" ∷ codes "T1" ∷ codes "T1" ∷ codes "A3" ∷ [] ∷ codes "S2" ∷ codes "C2" ∷ [] ∷ codes "S2" ∷ codes "L1" ∷ codes "M2" ∷ [] ∷ [] ∷ codes "A8" ∷ codes "W1" ∷ codes "A8" ∷ codes "P1" ∷ codes "R1" ∷ [] ∷ codes "C8" ∷ codes "L2" ∷ codes "C1" ∷ codes "T1" ∷ codes "C4" ∷ codes "A8" ∷ codes "A4" ∷ codes "C1" ∷ codes "M1" ∷ codes "C7" ∷ codes "C2" ∷ codes "S7" ∷ codes "C1" ∷ [] ∷ codes "S2" ∷ codes "A3" ∷ [] ∷ [] ∷ [] ∷ codes "L1" ∷ codes "M2" ∷ [] ∷ [] ∷ codes "I7" ∷ codes "A8" ∷ [] ∷ codes "W1" ∷ [] ∷ codes "M1" ∷ codes "S7" ∷ codes "W2" ∷ codes "A8" ∷ codes "W1" ∷ codes "I3" ∷ codes "A8" ∷ codes "K2" ∷ [] ∷ codes "W1" ∷ codes "W2" ∷ codes "C7" ∷ [] ∷ codes "C2" ∷ codes "A3" ∷ codes "A8" ∷ codes "A5" ∷ [] ∷ codes "W1" ∷ codes "S4" ∷ codes "A4" ∷ [] ∷ codes "C3" ∷ codes "P1" ∷ codes "C8" ∷ codes "A4" ∷ codes "A4" ∷ codes "L2" ∷ [] ∷ codes "A4" ∷ [] ∷ codes "I6" ∷ codes "I8" ∷ codes "C4" ∷ [] ∷ codes "R1" ∷ [] ∷ codes "I7" ∷ [] ∷ codes "I3" ∷ [] ∷ [] ∷ codes "L1" ∷ [] ∷ codes "C5" ∷ [] ∷ [] ∷ [] ∷ codes "C6" ∷ [] ∷ [] ∷ codes "M2" ∷ codes "A8" ∷ [] ∷ codes "K2" ∷ [] ∷ codes "I6" ∷ [] ∷ [] ∷ [] ∷ codes "S5" ∷ [] ∷ codes "I8" ∷ codes "P1" ∷ [] ∷ [] ∷ [] ∷ [] ∷ codes "C8" ∷ [] ∷ codes "I7" ∷ [] ∷ codes "I4" ∷ [] ∷ [] ∷ []) (Some (Opened 0 0 0) ∷ Some (Answered 4294967297 [] []) ∷ Some (NotBegun) ∷ Some (NotBegun) ∷ Some (CallFailed 8589934593 1501) ∷ Some (NotBegun) ∷ Some (NotBegun) ∷ Some (Answered 1 (0 ∷ 0 ∷ 0 ∷ 0 ∷ 0 ∷ 0 ∷ 0 ∷ 0 ∷ []) []) ∷ Some (Held) ∷ Some (Failed) ∷ [], (8, 2) ∷ (32, 9223372036854775811) ∷ (56, 1) ∷ [], (80 ∷ 82 ∷ 80 ∷ 67 ∷ 0 ∷ 0 ∷ 0 ∷ 16 ∷ 0 ∷ 0 ∷ 0 ∷ 16 ∷ 10 ∷ 12 ∷ 10 ∷ 3 ∷ 83 ∷ 117 ∷ 109 ∷ 18 ∷ 5 ∷ 66 ∷ 121 ∷ 116 ∷ 101 ∷ 115 ∷ 32 ∷ 2 ∷ 80 ∷ 82 ∷ 80 ∷ 67 ∷ 0 ∷ 0 ∷ 0 ∷ 23 ∷ 0 ∷ 0 ∷ 0 ∷ 23 ∷ 10 ∷ 15 ∷ 10 ∷ 4 ∷ 69 ∷ 99 ∷ 104 ∷ 111 ∷ 18 ∷ 7 ∷ 82 ∷ 101 ∷ 118 ∷ 101 ∷ 114 ∷ 115 ∷ 101 ∷ 32 ∷ 130 ∷ 128 ∷ 128 ∷ 128 ∷ 16 ∷ []) ∷ [])
unfolding decode_pairs encode_with digits
row_s1_4 = (refl, refl)

row_s1_5 : Draws (codes "slots 2\nrequests 1\nopen a serve end=1\nopen b fail=2 serve\nclient\nsend a 626364\nsend a 626364\nsend a 626364\nclient\nsend a 626364\ncall a Sum.Bytes 6869 att=01 retry=1\nclient\ncall a Echo.Reverse 6869 att=01 retry=1\nexpire 3.1\nclient\nexpire 3.1\nfail a 1500\n") (3 ∷ 1 ∷ 32 ∷ 4 ∷ 33 ∷ 1 ∷ 4 ∷ 33 ∷ 2 ∷ 2 ∷ 2 ∷ 3 ∷ 1 ∷ 4 ∷ 33 ∷ 2 ∷ 32 ∷ 32 ∷ 3 ∷ 1 ∷ 3 ∷ 1 ∷ 4 ∷ 33 ∷ 3 ∷ 2 ∷ 3 ∷ 3 ∷ 33 ∷ 1 ∷ 2 ∷ 32 ∷ 1 ∷ 2 ∷ 4 ∷ 1 ∷ 2 ∷ 33 ∷ 32 ∷ 2 ∷ 2 ∷ 4 ∷ 3 ∷ 32 ∷ 3 ∷ 1 ∷ 33 ∷ 2 ∷ 4 ∷ 1 ∷ 4 ∷ 4 ∷ 33 ∷ 4 ∷ 4 ∷ 3 ∷ 4 ∷ 2 ∷ 32 ∷ 4 ∷ 4 ∷ 2 ∷ 1 ∷ 3 ∷ 4 ∷ 1 ∷ 32 ∷ 3 ∷ 32 ∷ 4 ∷ 2 ∷ 3 ∷ 33 ∷ 32 ∷ 33 ∷ 33 ∷ 3 ∷ 1 ∷ 2 ∷ 4 ∷ 1 ∷ 4 ∷ 1 ∷ 1 ∷ 32 ∷ 2 ∷ 1 ∷ 32 ∷ 2 ∷ 32 ∷ 33 ∷ 32 ∷ 1 ∷ 32 ∷ 3 ∷ 32 ∷ 32 ∷ 3 ∷ 33 ∷ 33 ∷ 1 ∷ 4 ∷ 1 ∷ 3 ∷ 32 ∷ 4 ∷ 33 ∷ 3 ∷ 32 ∷ 3 ∷ 1 ∷ 1 ∷ 3 ∷ 33 ∷ 1 ∷ 2 ∷ 3 ∷ 3 ∷ 1 ∷ 1 ∷ 2 ∷ 2 ∷ 1 ∷ 3 ∷ 1 ∷ 4 ∷ 1 ∷ 2 ∷ 4 ∷ 2 ∷ 3 ∷ 4 ∷ 2 ∷ 4 ∷ 2 ∷ 3 ∷ 3 ∷ 3 ∷ 1 ∷ 3 ∷ 1 ∷ 2 ∷ 3 ∷ 33 ∷ 1 ∷ 3 ∷ 1 ∷ 32 ∷ 1 ∷ 3 ∷ 1 ∷ 3 ∷ 2 ∷ 4 ∷ 4 ∷ 4 ∷ 3 ∷ 3 ∷ 2 ∷ 2 ∷ []) (codes "S7" ∷ codes "S7" ∷ codes "S7" ∷ codes "T2" ∷ codes "S7" ∷ codes "A3" ∷ codes "S7" ∷ [] ∷ codes "S7" ∷ codes "A3" ∷ codes "A8" ∷ codes "I1" ∷ codes "A8" ∷ codes "A3" ∷ [] ∷ codes "C1" ∷ [] ∷ [] ∷ codes "K1" ∷ codes "C1" ∷ codes "I2" ∷ codes "A4" ∷ codes "A5" ∷ [] ∷ codes "T1" ∷ codes "M1" ∷ codes "A3" ∷ codes "A4" ∷ [] ∷ codes "S7" ∷ codes "C7" ∷ [] ∷ codes "A3" ∷ codes "C2" ∷ codes "S4" ∷ codes "A4" ∷ codes "S2" ∷ [] ∷ [] ∷ codes "L1" ∷ codes "M2" ∷ codes "A4" ∷ codes "I7" ∷ [] ∷ codes "I4" ∷ codes "S7" ∷ [] ∷ codes "A8" ∷ codes "A4" ∷ codes "A3" ∷ [] ∷ [] ∷ [] ∷ [] ∷ [] ∷ codes "K2" ∷ [] ∷ codes "A8" ∷ [] ∷ [] ∷ [] ∷ codes "S5" ∷ codes "A4" ∷ codes "K1" ∷ [] ∷ [] ∷ [] ∷ codes "I5" ∷ [] ∷ [] ∷ codes "P1" ∷ codes "I7" ∷ [] ∷ [] ∷ [] ∷ [] ∷ codes "I3" ∷ [] ∷ codes "C8" ∷ [] ∷ [] ∷ [] ∷ [] ∷ [] ∷ [] ∷ codes "L2" ∷ [] ∷ [] ∷ codes "C4" ∷ [] ∷ [] ∷ [] ∷ [] ∷ [] ∷ codes "K2" ∷ [] ∷ [] ∷ codes "K1" ∷ [] ∷ [] ∷ [] ∷ [] ∷ [] ∷ codes "I5" ∷ [] ∷ [] ∷ [] ∷ codes "S7" ∷ [] ∷ codes "A3" ∷ [] ∷ [] ∷ codes "A4" ∷ [] ∷ [] ∷ codes "A4" ∷ codes "I7" ∷ codes "I4" ∷ [] ∷ [] ∷ codes "A6" ∷ codes "S2" ∷ [] ∷ codes "K2" ∷ [] ∷ [] ∷ [] ∷ codes "L1" ∷ [] ∷ codes "W3" ∷ codes "I6" ∷ [] ∷ codes "L2" ∷ [] ∷ codes "A7" ∷ codes "I8" ∷ codes "T2" ∷ codes "I7" ∷ [] ∷ [] ∷ [] ∷ codes "S7" ∷ [] ∷ [] ∷ [] ∷ [] ∷ [] ∷ codes "R1" ∷ [] ∷ [] ∷ [] ∷ [] ∷ codes "I1" ∷ [] ∷ [] ∷ [] ∷ [] ∷ [] ∷ codes "K1" ∷ codes "I2" ∷ []) (Some (Opened 0 0 0) ∷ Some (Opened 1 0 1) ∷ Some (Full) ∷ Some (Gone (record { 0 = 4294967299 })) ∷ Some (Gone (record { 0 = 4294967297 })) ∷ None ∷ Some (CallFailed 4 1009) ∷ Some (CallFailed 1 1009) ∷ Some (Late) ∷ Some (NotBegun) ∷ Some (Failed) ∷ [], (40, 9223372036854775809) ∷ [], ([]) ∷ ([]) ∷ [])
unfolding decode_pairs encode_with digits
row_s1_5 = (refl, refl)

row_s1_6 : Draws (codes "slots 1\nrequests 2\nopen a piece=7 fail=3 serve\nclient\ncall a No.Op 6869 retry=2\n") (1 ∷ 32 ∷ 32 ∷ 32 ∷ 1 ∷ 32 ∷ 32 ∷ 1 ∷ 1 ∷ 32 ∷ 1 ∷ 1 ∷ 1 ∷ 32 ∷ 1 ∷ 1 ∷ 32 ∷ 32 ∷ 1 ∷ 1 ∷ 1 ∷ 32 ∷ 1 ∷ 1 ∷ 32 ∷ 32 ∷ 1 ∷ 1 ∷ 1 ∷ 32 ∷ 1 ∷ 1 ∷ 1 ∷ 1 ∷ 32 ∷ 32 ∷ 1 ∷ 1 ∷ 32 ∷ 1 ∷ 1 ∷ 32 ∷ 32 ∷ 1 ∷ 1 ∷ 32 ∷ 32 ∷ 1 ∷ 32 ∷ 1 ∷ 1 ∷ 1 ∷ 1 ∷ 32 ∷ 32 ∷ 1 ∷ 32 ∷ 1 ∷ 1 ∷ 32 ∷ 32 ∷ 1 ∷ 1 ∷ 1 ∷ 1 ∷ 32 ∷ 1 ∷ 1 ∷ 32 ∷ 1 ∷ 1 ∷ 1 ∷ 1 ∷ 1 ∷ 1 ∷ 1 ∷ 32 ∷ 32 ∷ 32 ∷ 1 ∷ 32 ∷ 32 ∷ 32 ∷ 1 ∷ 1 ∷ 1 ∷ 1 ∷ 1 ∷ 32 ∷ 1 ∷ 1 ∷ 1 ∷ 1 ∷ 1 ∷ 1 ∷ 32 ∷ 1 ∷ 1 ∷ 1 ∷ 1 ∷ 32 ∷ 1 ∷ 32 ∷ 32 ∷ 32 ∷ 1 ∷ 32 ∷ 1 ∷ 1 ∷ 32 ∷ 1 ∷ 32 ∷ 32 ∷ 1 ∷ 32 ∷ 1 ∷ 1 ∷ 32 ∷ 1 ∷ 1 ∷ 1 ∷ 1 ∷ 1 ∷ 1 ∷ 32 ∷ 1 ∷ 1 ∷ 1 ∷ 32 ∷ 32 ∷ 32 ∷ 1 ∷ 32 ∷ 1 ∷ 32 ∷ 1 ∷ 1 ∷ 32 ∷ 1 ∷ 32 ∷ 32 ∷ 32 ∷ 1 ∷ 1 ∷ 1 ∷ 1 ∷ 1 ∷ 1 ∷ 32 ∷ 1 ∷ 1 ∷ 32 ∷ 1 ∷ 1 ∷ 32 ∷ 32 ∷ 1 ∷ 1 ∷ 32 ∷ 32 ∷ []) (codes "S7" ∷ codes "S7" ∷ [] ∷ [] ∷ codes "I1" ∷ [] ∷ [] ∷ codes "K1" ∷ codes "I2" ∷ [] ∷ codes "T1" ∷ codes "A3" ∷ codes "S2" ∷ [] ∷ codes "T1" ∷ codes "A8" ∷ [] ∷ [] ∷ codes "C1" ∷ codes "M1" ∷ codes "C7" ∷ [] ∷ codes "C2" ∷ codes "S2" ∷ [] ∷ [] ∷ codes "L1" ∷ codes "M2" ∷ codes "A8" ∷ [] ∷ codes "W1" ∷ codes "A8" ∷ codes "W1" ∷ codes "A8" ∷ [] ∷ [] ∷ codes "W1" ∷ codes "A5" ∷ [] ∷ codes "S4" ∷ codes "A4" ∷ [] ∷ [] ∷ codes "A8" ∷ codes "S5" ∷ [] ∷ [] ∷ codes "P1" ∷ [] ∷ codes "C8" ∷ codes "I7" ∷ codes "I4" ∷ codes "K2" ∷ [] ∷ [] ∷ codes "K1" ∷ [] ∷ codes "I5" ∷ codes "L2" ∷ [] ∷ [] ∷ codes "C4" ∷ codes "A4" ∷ codes "A6" ∷ codes "S2" ∷ [] ∷ codes "L1" ∷ codes "W3" ∷ codes "R1" ∷ codes "L2" ∷ codes "A7" ∷ codes "I7" ∷ codes "I3" ∷ codes "K2" ∷ codes "K1" ∷ codes "I5" ∷ codes "T2" ∷ codes "I7" ∷ [] ∷ codes "S7" ∷ [] ∷ [] ∷ [] ∷ codes "A3" ∷ codes "A4" ∷ codes "I7" ∷ codes "I4" ∷ codes "K2" ∷ [] ∷ codes "K1" ∷ codes "I5" ∷ codes "I7" ∷ codes "I3" ∷ codes "K2" ∷ codes "K1" ∷ [] ∷ codes "I5" ∷ codes "S7" ∷ codes "A3" ∷ codes "A4" ∷ [] ∷ codes "I7" ∷ [] ∷ [] ∷ [] ∷ codes "I4" ∷ [] ∷ codes "K2" ∷ codes "I6" ∷ [] ∷ codes "I8" ∷ [] ∷ [] ∷ [] ∷ [] ∷ [] ∷ [] ∷ [] ∷ [] ∷ [] ∷ [] ∷ [] ∷ [] ∷ [] ∷ [] ∷ [] ∷ [] ∷ [] ∷ [] ∷ [] ∷ [] ∷ [] ∷ [] ∷ [] ∷ [] ∷ [] ∷ [] ∷ [] ∷ [] ∷ [] ∷ [] ∷ [] ∷ [] ∷ [] ∷ [] ∷ [] ∷ [] ∷ [] ∷ [] ∷ [] ∷ [] ∷ [] ∷ [] ∷ [] ∷ [] ∷ [] ∷ [] ∷ [] ∷ [] ∷ [] ∷ []) (Some (Opened 0 0 0) ∷ Some (CallFailed 1 1009) ∷ [], (8, 9223372036854775809) ∷ [], (80 ∷ 82 ∷ 80 ∷ 67 ∷ 0 ∷ 0 ∷ 0 ∷ 14 ∷ 0 ∷ 0 ∷ 0 ∷ 12 ∷ 10 ∷ 8 ∷ []) ∷ [])
unfolding decode_pairs encode_with digits
row_s1_6 = (refl, refl)

row_s1_7 : Draws (codes "slots 3\nrequests 8\nopen a piece=1 fail=1 serve end=0\nclient\ncall a Echo.Echo 61 att=01 retry=1\nopen a piece=7 serve\nclient\ncall a Sum.Bytes 6869 retry=2\nclient\njoin 2.1\nexpire 2.1\nfail a 1500\n") (1 ∷ 2 ∷ 3 ∷ 1 ∷ 1 ∷ 32 ∷ 2 ∷ 1 ∷ 2 ∷ 2 ∷ 2 ∷ 33 ∷ 3 ∷ 32 ∷ 2 ∷ 3 ∷ 2 ∷ 3 ∷ 1 ∷ 2 ∷ 33 ∷ 3 ∷ 3 ∷ 2 ∷ 3 ∷ 1 ∷ 33 ∷ 3 ∷ 3 ∷ 2 ∷ 3 ∷ 3 ∷ 32 ∷ 33 ∷ 32 ∷ 2 ∷ 3 ∷ 2 ∷ 2 ∷ 1 ∷ 1 ∷ 3 ∷ 32 ∷ 2 ∷ 33 ∷ 1 ∷ 32 ∷ 32 ∷ 2 ∷ 3 ∷ 32 ∷ 32 ∷ 33 ∷ 1 ∷ 2 ∷ 33 ∷ 1 ∷ 1 ∷ 1 ∷ 2 ∷ 3 ∷ 3 ∷ 2 ∷ 3 ∷ 33 ∷ 1 ∷ 1 ∷ 2 ∷ 3 ∷ 3 ∷ 2 ∷ 1 ∷ 3 ∷ 32 ∷ 3 ∷ 2 ∷ 1 ∷ 32 ∷ 32 ∷ 32 ∷ 3 ∷ 2 ∷ 3 ∷ 33 ∷ 1 ∷ 3 ∷ 1 ∷ 3 ∷ 2 ∷ 3 ∷ 33 ∷ 3 ∷ 2 ∷ 1 ∷ 33 ∷ 1 ∷ 32 ∷ 3 ∷ 32 ∷ 1 ∷ 2 ∷ 1 ∷ 3 ∷ 3 ∷ 1 ∷ 33 ∷ 33 ∷ 3 ∷ 33 ∷ 1 ∷ 32 ∷ 33 ∷ 32 ∷ 2 ∷ 33 ∷ 2 ∷ 3 ∷ 3 ∷ 1 ∷ 32 ∷ 32 ∷ 2 ∷ 1 ∷ 2 ∷ 3 ∷ 33 ∷ 32 ∷ 2 ∷ 3 ∷ 3 ∷ 2 ∷ 2 ∷ 1 ∷ 33 ∷ 32 ∷ 1 ∷ 32 ∷ 1 ∷ 1 ∷ 32 ∷ 3 ∷ 3 ∷ 3 ∷ 1 ∷ 2 ∷ 3 ∷ 3 ∷ 32 ∷ 1 ∷ 1 ∷ 32 ∷ 1 ∷ 1 ∷ 1 ∷ 2 ∷ 1 ∷ 32 ∷ 33 ∷ 2 ∷ 1 ∷ []) (codes "S7" ∷ codes "S7" ∷ codes "T2" ∷ codes "I1" ∷ codes "K1" ∷ codes "S7" ∷ codes "I1" ∷ codes "I2" ∷ codes "I1" ∷ codes "K1" ∷ codes "I2" ∷ [] ∷ codes "T2" ∷ codes "R1" ∷ codes "T1" ∷ codes "S7" ∷ codes "A3" ∷ codes "A3" ∷ codes "T1" ∷ codes "S2" ∷ [] ∷ codes "A5" ∷ codes "S4" ∷ codes "T1" ∷ codes "A4" ∷ codes "A3" ∷ [] ∷ codes "A4" ∷ [] ∷ codes "A8" ∷ [] ∷ [] ∷ codes "A3" ∷ [] ∷ codes "A4" ∷ codes "I7" ∷ [] ∷ codes "I4" ∷ codes "K2" ∷ codes "A4" ∷ codes "I7" ∷ [] ∷ codes "T2" ∷ codes "K1" ∷ [] ∷ codes "I4" ∷ codes "T2" ∷ codes "I7" ∷ codes "I5" ∷ [] ∷ codes "I4" ∷ [] ∷ [] ∷ codes "K2" ∷ codes "A4" ∷ [] ∷ codes "K1" ∷ codes "I5" ∷ codes "I7" ∷ codes "A6" ∷ [] ∷ [] ∷ codes "S2" ∷ [] ∷ [] ∷ codes "I3" ∷ codes "K2" ∷ codes "L1" ∷ [] ∷ [] ∷ codes "W3" ∷ codes "K1" ∷ [] ∷ [] ∷ [] ∷ codes "L2" ∷ codes "I5" ∷ [] ∷ [] ∷ [] ∷ [] ∷ codes "A7" ∷ [] ∷ [] ∷ codes "S7" ∷ [] ∷ codes "A3" ∷ [] ∷ codes "I7" ∷ [] ∷ [] ∷ [] ∷ codes "I3" ∷ codes "A4" ∷ [] ∷ codes "I7" ∷ [] ∷ [] ∷ [] ∷ codes "I4" ∷ codes "K2" ∷ codes "K2" ∷ [] ∷ [] ∷ codes "I6" ∷ [] ∷ [] ∷ [] ∷ [] ∷ codes "I8" ∷ [] ∷ [] ∷ [] ∷ codes "K1" ∷ [] ∷ codes "I5" ∷ [] ∷ [] ∷ codes "A1" ∷ [] ∷ [] ∷ codes "S7" ∷ codes "S1" ∷ codes "A3" ∷ [] ∷ [] ∷ [] ∷ codes "A4" ∷ [] ∷ [] ∷ codes "I7" ∷ codes "I4" ∷ codes "S3" ∷ [] ∷ [] ∷ codes "S4" ∷ [] ∷ codes "A2" ∷ codes "S6" ∷ [] ∷ [] ∷ [] ∷ [] ∷ codes "S6" ∷ codes "K2" ∷ [] ∷ [] ∷ [] ∷ [] ∷ [] ∷ [] ∷ [] ∷ [] ∷ [] ∷ codes "K1" ∷ [] ∷ [] ∷ codes "S7" ∷ codes "I5" ∷ [] ∷ []) (Some (Opened 0 0 0) ∷ Some (CallFailed 1 1009) ∷ Some (Opened 0 2 1) ∷ Some (Answered 4294967297 (0 ∷ 0 ∷ 0 ∷ 0 ∷ 0 ∷ 0 ∷ 0 ∷ 209 ∷ []) []) ∷ Some (NotBegun) ∷ Some (NotBegun) ∷ Some (Failed) ∷ [], (26, 4294967297) ∷ [], ([]) ∷ (80 ∷ 82 ∷ 80 ∷ 67 ∷ 0 ∷ 0 ∷ 0 ∷ 22 ∷ 0 ∷ 0 ∷ 0 ∷ 20 ∷ 10 ∷ 12 ∷ 10 ∷ 3 ∷ 83 ∷ 117 ∷ 109 ∷ 18 ∷ 5 ∷ 66 ∷ 121 ∷ 116 ∷ 101 ∷ 115 ∷ 32 ∷ 132 ∷ 128 ∷ 128 ∷ 128 ∷ 16 ∷ 104 ∷ 105 ∷ []) ∷ [])
unfolding decode_pairs encode_with digits
row_s1_7 = (refl, refl)

row_s1_8 : Draws (codes "slots 2\nrequests 1\nopen a piece=30 fail=2 serve\nopen b piece=1 serve\nclient\nfail a 1501\nsend a 626364\nfail b 1500\nclient\nsend a 61\nsend b 61\nclient\ncall b No.Op 61\nhold a\nclient\ncall a Echo.Reverse - retry=2\n") (4 ∷ 3 ∷ 4 ∷ 2 ∷ 2 ∷ 3 ∷ 1 ∷ 1 ∷ 3 ∷ 3 ∷ 3 ∷ 3 ∷ 33 ∷ 33 ∷ 3 ∷ 32 ∷ 32 ∷ 2 ∷ 4 ∷ 3 ∷ 3 ∷ 1 ∷ 4 ∷ 3 ∷ 2 ∷ 3 ∷ 4 ∷ 1 ∷ 3 ∷ 2 ∷ 4 ∷ 32 ∷ 1 ∷ 2 ∷ 32 ∷ 1 ∷ 4 ∷ 4 ∷ 1 ∷ 1 ∷ 33 ∷ 33 ∷ 2 ∷ 33 ∷ 2 ∷ 4 ∷ 1 ∷ 33 ∷ 1 ∷ 1 ∷ 2 ∷ 3 ∷ 3 ∷ 2 ∷ 2 ∷ 3 ∷ 33 ∷ 4 ∷ 4 ∷ 32 ∷ 32 ∷ 3 ∷ 2 ∷ 4 ∷ 3 ∷ 32 ∷ 3 ∷ 33 ∷ 1 ∷ 1 ∷ 2 ∷ 4 ∷ 33 ∷ 3 ∷ 4 ∷ 32 ∷ 33 ∷ 4 ∷ 1 ∷ 1 ∷ 3 ∷ 32 ∷ 32 ∷ 4 ∷ 3 ∷ 1 ∷ 3 ∷ 3 ∷ 1 ∷ 4 ∷ 2 ∷ 3 ∷ 3 ∷ 32 ∷ 1 ∷ 4 ∷ 1 ∷ 4 ∷ 4 ∷ 3 ∷ 32 ∷ 2 ∷ 4 ∷ 2 ∷ 2 ∷ 1 ∷ 3 ∷ 4 ∷ 4 ∷ 3 ∷ 33 ∷ 32 ∷ 4 ∷ 32 ∷ 3 ∷ 32 ∷ 2 ∷ 4 ∷ 4 ∷ 2 ∷ 33 ∷ 2 ∷ 2 ∷ 1 ∷ 4 ∷ 1 ∷ 33 ∷ 3 ∷ 3 ∷ 1 ∷ 4 ∷ 1 ∷ 33 ∷ 32 ∷ 2 ∷ 33 ∷ 3 ∷ 2 ∷ 3 ∷ 32 ∷ 33 ∷ 1 ∷ 3 ∷ 1 ∷ 2 ∷ 4 ∷ 1 ∷ 32 ∷ 4 ∷ 1 ∷ 3 ∷ 1 ∷ 33 ∷ 2 ∷ 3 ∷ 33 ∷ 33 ∷ 32 ∷ 1 ∷ 2 ∷ []) (codes "S7" ∷ codes "S7" ∷ codes "I1" ∷ codes "S7" ∷ codes "A3" ∷ codes "I1" ∷ codes "S7" ∷ codes "A3" ∷ codes "I1" ∷ codes "K1" ∷ codes "I2" ∷ codes "T1" ∷ codes "S7" ∷ [] ∷ codes "A3" ∷ codes "S7" ∷ [] ∷ codes "A8" ∷ codes "K1" ∷ codes "S2" ∷ codes "T1" ∷ codes "A5" ∷ codes "I2" ∷ codes "A8" ∷ codes "C1" ∷ codes "C1" ∷ codes "T1" ∷ codes "S4" ∷ codes "I7" ∷ codes "M1" ∷ codes "A3" ∷ [] ∷ codes "A4" ∷ codes "C7" ∷ [] ∷ codes "A4" ∷ codes "A4" ∷ codes "I7" ∷ codes "S7" ∷ codes "A3" ∷ [] ∷ [] ∷ codes "C2" ∷ [] ∷ codes "S2" ∷ codes "I4" ∷ codes "A4" ∷ [] ∷ codes "S7" ∷ codes "A3" ∷ codes "L1" ∷ codes "I4" ∷ codes "K2" ∷ codes "M2" ∷ codes "A8" ∷ codes "I6" ∷ [] ∷ codes "K2" ∷ codes "K1" ∷ [] ∷ [] ∷ codes "I8" ∷ codes "A8" ∷ codes "I5" ∷ codes "A4" ∷ [] ∷ codes "S7" ∷ [] ∷ codes "A5" ∷ codes "S4" ∷ codes "S5" ∷ codes "I7" ∷ [] ∷ codes "A3" ∷ codes "I3" ∷ [] ∷ [] ∷ codes "K2" ∷ codes "A4" ∷ codes "A4" ∷ codes "A4" ∷ [] ∷ [] ∷ codes "K1" ∷ [] ∷ codes "A6" ∷ [] ∷ [] ∷ codes "S2" ∷ codes "I5" ∷ codes "P1" ∷ [] ∷ [] ∷ [] ∷ codes "L1" ∷ codes "S7" ∷ codes "W3" ∷ codes "A3" ∷ codes "A4" ∷ [] ∷ [] ∷ codes "C8" ∷ codes "I7" ∷ codes "L2" ∷ codes "C4" ∷ codes "L2" ∷ [] ∷ codes "I4" ∷ codes "K2" ∷ [] ∷ codes "R1" ∷ [] ∷ codes "K1" ∷ [] ∷ [] ∷ [] ∷ codes "A4" ∷ codes "I5" ∷ codes "I7" ∷ codes "A6" ∷ codes "T2" ∷ codes "S2" ∷ codes "L1" ∷ codes "A7" ∷ codes "I3" ∷ [] ∷ codes "I7" ∷ [] ∷ [] ∷ [] ∷ codes "K2" ∷ [] ∷ codes "T2" ∷ [] ∷ codes "W3" ∷ [] ∷ [] ∷ codes "L2" ∷ [] ∷ codes "R1" ∷ [] ∷ [] ∷ [] ∷ [] ∷ codes "A7" ∷ codes "K1" ∷ [] ∷ codes "T2" ∷ codes "I5" ∷ [] ∷ [] ∷ [] ∷ [] ∷ codes "S7" ∷ [] ∷ [] ∷ [] ∷ codes "T2" ∷ [] ∷ codes "A3" ∷ []) (Some (Opened 0 0 0) ∷ Some (Opened 1 0 1) ∷ Some (Failed) ∷ Some (Gone (record { 0 = 4294967297 })) ∷ Some (Failed) ∷ None ∷ Some (Gone (record { 0 = 8589934592 })) ∷ Some (CallFailed 4294967297 3001) ∷ Some (Gone (record { 0 = 4294967297 })) ∷ Some (CallFailed 1 1009) ∷ [], (40, 9223372036854775809) ∷ [], ([]) ∷ ([]) ∷ [])
unfolding decode_pairs encode_with digits
row_s1_8 = (refl, refl)

row_s1_9 : Draws (codes "slots 3\nrequests 4\nopen a piece=30 again=2 serve end=1\nopen b serve\nclient\ncall b Echo.Echo 61 att=01 retry=1\ncall a No.Op 6869 att=01 retry=1\nhold b\nclient\ncall a,b No.Op - att=01 retry=2\nsend a 61\nsend b 626364\nclient\ncall b Echo.Echo 6869 att=01\nclient\nexpire 1.1\nexpire 2.1\nfail a 1500\n") (4 ∷ 2 ∷ 1 ∷ 1 ∷ 2 ∷ 3 ∷ 3 ∷ 32 ∷ 1 ∷ 33 ∷ 32 ∷ 3 ∷ 3 ∷ 4 ∷ 4 ∷ 2 ∷ 33 ∷ 3 ∷ 33 ∷ 32 ∷ 2 ∷ 1 ∷ 4 ∷ 4 ∷ 1 ∷ 2 ∷ 4 ∷ 2 ∷ 33 ∷ 2 ∷ 4 ∷ 1 ∷ 1 ∷ 4 ∷ 1 ∷ 3 ∷ 1 ∷ 32 ∷ 1 ∷ 1 ∷ 4 ∷ 2 ∷ 32 ∷ 3 ∷ 1 ∷ 32 ∷ 4 ∷ 4 ∷ 4 ∷ 1 ∷ 4 ∷ 4 ∷ 32 ∷ 2 ∷ 2 ∷ 3 ∷ 2 ∷ 4 ∷ 33 ∷ 3 ∷ 4 ∷ 33 ∷ 1 ∷ 33 ∷ 3 ∷ 33 ∷ 4 ∷ 2 ∷ 1 ∷ 4 ∷ 1 ∷ 2 ∷ 33 ∷ 33 ∷ 3 ∷ 33 ∷ 2 ∷ 2 ∷ 2 ∷ 3 ∷ 4 ∷ 32 ∷ 4 ∷ 33 ∷ 33 ∷ 32 ∷ 32 ∷ 4 ∷ 33 ∷ 33 ∷ 4 ∷ 33 ∷ 4 ∷ 3 ∷ 1 ∷ 32 ∷ 1 ∷ 33 ∷ 3 ∷ 33 ∷ 32 ∷ 1 ∷ 1 ∷ 1 ∷ 1 ∷ 33 ∷ 1 ∷ 4 ∷ 4 ∷ 2 ∷ 4 ∷ 32 ∷ 4 ∷ 4 ∷ 4 ∷ 2 ∷ 3 ∷ 3 ∷ 3 ∷ 1 ∷ 2 ∷ 2 ∷ 1 ∷ 1 ∷ 32 ∷ 1 ∷ 1 ∷ 3 ∷ 1 ∷ 2 ∷ 2 ∷ 1 ∷ 33 ∷ 1 ∷ 4 ∷ 2 ∷ 2 ∷ 2 ∷ 2 ∷ 3 ∷ 1 ∷ 3 ∷ 33 ∷ 2 ∷ 4 ∷ 1 ∷ 3 ∷ 32 ∷ 33 ∷ 2 ∷ 1 ∷ 1 ∷ 3 ∷ 3 ∷ 32 ∷ 4 ∷ 2 ∷ 4 ∷ 3 ∷ 4 ∷ []) (codes "T2" ∷ codes "S7" ∷ codes "S7" ∷ codes "I1" ∷ codes "I1" ∷ codes "S7" ∷ codes "I1" ∷ codes "S7" ∷ codes "K1" ∷ codes "S7" ∷ [] ∷ codes "I1" ∷ codes "K1" ∷ codes "T2" ∷ codes "S7" ∷ codes "I1" ∷ [] ∷ codes "I2" ∷ [] ∷ [] ∷ codes "I1" ∷ codes "I2" ∷ codes "A3" ∷ codes "A5" ∷ codes "T1" ∷ codes "K1" ∷ codes "S4" ∷ codes "I2" ∷ [] ∷ codes "T1" ∷ codes "A4" ∷ codes "A3" ∷ codes "S2" ∷ codes "A4" ∷ codes "T1" ∷ codes "T1" ∷ codes "A8" ∷ [] ∷ codes "C1" ∷ codes "M1" ∷ codes "A6" ∷ codes "A3" ∷ [] ∷ codes "A3" ∷ codes "C7" ∷ [] ∷ codes "S2" ∷ codes "L1" ∷ codes "W3" ∷ codes "C2" ∷ codes "L2" ∷ codes "A7" ∷ codes "R1" ∷ codes "A4" ∷ codes "I7" ∷ codes "S2" ∷ codes "I4" ∷ [] ∷ [] ∷ codes "T1" ∷ [] ∷ [] ∷ codes "S2" ∷ [] ∷ codes "A8" ∷ [] ∷ [] ∷ codes "K2" ∷ codes "L1" ∷ [] ∷ codes "M2" ∷ codes "K1" ∷ [] ∷ [] ∷ codes "C1" ∷ [] ∷ codes "I5" ∷ codes "I7" ∷ codes "I3" ∷ codes "C1" ∷ [] ∷ codes "T2" ∷ [] ∷ [] ∷ [] ∷ codes "T2" ∷ codes "T2" ∷ [] ∷ [] ∷ [] ∷ [] ∷ [] ∷ [] ∷ codes "M1" ∷ codes "A8" ∷ codes "T2" ∷ codes "W1" ∷ [] ∷ codes "C7" ∷ [] ∷ [] ∷ codes "A8" ∷ codes "W1" ∷ codes "A8" ∷ codes "W1" ∷ codes "R1" ∷ codes "P1" ∷ [] ∷ [] ∷ codes "K2" ∷ [] ∷ [] ∷ [] ∷ [] ∷ [] ∷ codes "K1" ∷ codes "C2" ∷ codes "C3" ∷ codes "A4" ∷ codes "C8" ∷ codes "I5" ∷ codes "S7" ∷ codes "L2" ∷ codes "C4" ∷ [] ∷ codes "L1" ∷ codes "C5" ∷ [] ∷ codes "C6" ∷ codes "A3" ∷ codes "S2" ∷ codes "M2" ∷ codes "I7" ∷ codes "A8" ∷ [] ∷ codes "T1" ∷ codes "A8" ∷ codes "C1" ∷ codes "M1" ∷ [] ∷ codes "W1" ∷ [] ∷ codes "I3" ∷ codes "C7" ∷ [] ∷ codes "A8" ∷ [] ∷ [] ∷ codes "K2" ∷ codes "C2" ∷ codes "W1" ∷ codes "A8" ∷ [] ∷ [] ∷ [] ∷ [] ∷ codes "C3" ∷ [] ∷ [] ∷ [] ∷ []) (Some (Opened 0 0 0) ∷ Some (Opened 1 0 1) ∷ Some (Answered 1 (97 ∷ []) (1 ∷ [])) ∷ Some (CallFailed 4 1009) ∷ Some (Gone (record { 0 = 8589934592 })) ∷ Some (Peer 8589934593 (pos 1001)) ∷ Some (Gone (record { 0 = 8589934592 })) ∷ None ∷ Some (Answered 4294967297 (104 ∷ 105 ∷ []) (1 ∷ [])) ∷ Some (NotBegun) ∷ Some (NotBegun) ∷ Some (Failed) ∷ [], (16, 4294967297) ∷ (41, 4294967299) ∷ (56, 4294967300) ∷ (64, 4294967298) ∷ [], ([]) ∷ (80 ∷ 82 ∷ 80 ∷ 67 ∷ 0 ∷ 0 ∷ 0 ∷ 20 ∷ 0 ∷ 0 ∷ 0 ∷ 18 ∷ 10 ∷ 12 ∷ 10 ∷ 4 ∷ 69 ∷ 99 ∷ 104 ∷ 111 ∷ 18 ∷ 4 ∷ 69 ∷ 99 ∷ 104 ∷ 111 ∷ 32 ∷ 2 ∷ 40 ∷ 1 ∷ 97 ∷ 1 ∷ 80 ∷ 82 ∷ 80 ∷ 67 ∷ 0 ∷ 0 ∷ 0 ∷ 25 ∷ 0 ∷ 0 ∷ 0 ∷ 22 ∷ 10 ∷ 12 ∷ 10 ∷ 4 ∷ 69 ∷ 99 ∷ 104 ∷ 111 ∷ 18 ∷ 4 ∷ 69 ∷ 99 ∷ 104 ∷ 111 ∷ 32 ∷ 130 ∷ 128 ∷ 128 ∷ 128 ∷ 16 ∷ 40 ∷ 1 ∷ 104 ∷ 105 ∷ 1 ∷ 80 ∷ 82 ∷ 80 ∷ 67 ∷ 0 ∷ 0 ∷ 0 ∷ 19 ∷ 0 ∷ 0 ∷ 0 ∷ 18 ∷ 10 ∷ 8 ∷ 10 ∷ 2 ∷ 78 ∷ 111 ∷ 18 ∷ 2 ∷ 79 ∷ 112 ∷ 32 ∷ 131 ∷ 128 ∷ 128 ∷ 128 ∷ 32 ∷ 40 ∷ 1 ∷ 1 ∷ 98 ∷ 99 ∷ 100 ∷ []) ∷ [])
unfolding decode_pairs encode_with digits
row_s1_9 = (refl, refl)

row_s1_10 : Draws (codes "slots 3\nrequests 1\nopen a serve\nopen b serve\nclient\ncall a Sum.Bytes 6869 att=01 retry=2\nexpire 1.1\nclient\njoin 1.1\nfail a 1501\ncall b,a Sum.Bytes 61\nclient\nexpire 1.1\ncall a,b Echo.Echo - retry=1\nsend a 61\nclient\ncall b Echo.Echo - retry=2\n") (4 ∷ 4 ∷ 4 ∷ 1 ∷ 1 ∷ 33 ∷ 32 ∷ 32 ∷ 1 ∷ 4 ∷ 3 ∷ 4 ∷ 3 ∷ 1 ∷ 4 ∷ 32 ∷ 4 ∷ 1 ∷ 2 ∷ 2 ∷ 3 ∷ 2 ∷ 1 ∷ 33 ∷ 3 ∷ 32 ∷ 2 ∷ 3 ∷ 4 ∷ 4 ∷ 3 ∷ 1 ∷ 2 ∷ 1 ∷ 2 ∷ 3 ∷ 2 ∷ 4 ∷ 3 ∷ 4 ∷ 1 ∷ 1 ∷ 2 ∷ 1 ∷ 33 ∷ 2 ∷ 4 ∷ 4 ∷ 4 ∷ 3 ∷ 2 ∷ 1 ∷ 4 ∷ 1 ∷ 2 ∷ 2 ∷ 4 ∷ 1 ∷ 1 ∷ 32 ∷ 3 ∷ 4 ∷ 1 ∷ 1 ∷ 4 ∷ 2 ∷ 2 ∷ 2 ∷ 4 ∷ 33 ∷ 3 ∷ 3 ∷ 2 ∷ 3 ∷ 4 ∷ 4 ∷ 2 ∷ 3 ∷ 33 ∷ 2 ∷ 4 ∷ 2 ∷ 3 ∷ 1 ∷ 32 ∷ 1 ∷ 2 ∷ 2 ∷ 3 ∷ 4 ∷ 2 ∷ 2 ∷ 2 ∷ 3 ∷ 4 ∷ 32 ∷ 1 ∷ 2 ∷ 3 ∷ 1 ∷ 3 ∷ 1 ∷ 33 ∷ 3 ∷ 32 ∷ 3 ∷ 3 ∷ 4 ∷ 3 ∷ 3 ∷ 3 ∷ 2 ∷ 33 ∷ 1 ∷ 4 ∷ 2 ∷ 2 ∷ 3 ∷ 1 ∷ 4 ∷ 1 ∷ 2 ∷ 3 ∷ 3 ∷ 32 ∷ 2 ∷ 4 ∷ 2 ∷ 3 ∷ 2 ∷ 2 ∷ 3 ∷ 4 ∷ 32 ∷ 1 ∷ 1 ∷ 4 ∷ 2 ∷ 2 ∷ 32 ∷ 2 ∷ 32 ∷ 2 ∷ 2 ∷ 2 ∷ 3 ∷ 3 ∷ 1 ∷ 1 ∷ 33 ∷ 4 ∷ 1 ∷ 4 ∷ 1 ∷ 2 ∷ 33 ∷ 3 ∷ 4 ∷ 2 ∷ 1 ∷ []) (codes "S7" ∷ codes "I1" ∷ codes "K1" ∷ codes "S7" ∷ codes "I1" ∷ codes "S7" ∷ codes "S7" ∷ [] ∷ codes "I1" ∷ codes "I2" ∷ codes "T2" ∷ codes "T1" ∷ codes "S7" ∷ codes "K1" ∷ codes "A3" ∷ [] ∷ codes "S2" ∷ codes "I2" ∷ codes "T2" ∷ codes "S7" ∷ codes "I1" ∷ codes "A3" ∷ codes "T1" ∷ [] ∷ codes "I1" ∷ [] ∷ codes "A5" ∷ codes "I1" ∷ codes "T1" ∷ codes "A8" ∷ codes "K1" ∷ codes "A3" ∷ codes "S4" ∷ codes "A4" ∷ codes "A4" ∷ codes "I2" ∷ codes "A4" ∷ codes "C1" ∷ codes "T1" ∷ codes "M1" ∷ codes "I7" ∷ codes "I4" ∷ codes "A6" ∷ codes "K2" ∷ [] ∷ codes "S2" ∷ codes "C7" ∷ codes "C2" ∷ codes "S2" ∷ codes "A3" ∷ codes "L1" ∷ codes "K1" ∷ codes "L1" ∷ codes "I5" ∷ codes "W3" ∷ codes "L2" ∷ codes "M2" ∷ codes "I7" ∷ codes "I3" ∷ codes "R1" ∷ codes "A4" ∷ codes "A8" ∷ codes "K2" ∷ codes "K1" ∷ codes "W1" ∷ codes "A7" ∷ codes "S7" ∷ codes "I1" ∷ codes "P1" ∷ codes "R1" ∷ codes "I7" ∷ codes "I4" ∷ codes "I1" ∷ codes "K2" ∷ codes "C8" ∷ codes "L2" ∷ codes "I1" ∷ codes "K1" ∷ codes "I7" ∷ codes "I1" ∷ codes "C4" ∷ codes "K1" ∷ codes "I5" ∷ codes "I5" ∷ codes "T2" ∷ codes "S7" ∷ codes "I2" ∷ codes "T1" ∷ codes "I7" ∷ codes "A4" ∷ codes "A3" ∷ codes "S2" ∷ codes "T1" ∷ codes "I3" ∷ [] ∷ codes "T2" ∷ codes "A3" ∷ codes "A8" ∷ codes "K2" ∷ codes "A4" ∷ codes "K1" ∷ codes "I7" ∷ codes "I3" ∷ codes "I5" ∷ codes "T2" ∷ codes "S7" ∷ codes "A3" ∷ [] ∷ codes "S2" ∷ codes "T1" ∷ codes "A8" ∷ codes "C1" ∷ codes "K2" ∷ codes "I4" ∷ [] ∷ codes "M1" ∷ codes "C7" ∷ codes "C1" ∷ codes "K2" ∷ [] ∷ codes "K1" ∷ codes "C2" ∷ codes "I7" ∷ codes "I4" ∷ codes "T2" ∷ codes "S2" ∷ [] ∷ codes "L1" ∷ codes "K2" ∷ codes "M2" ∷ codes "A8" ∷ codes "I6" ∷ [] ∷ [] ∷ codes "I5" ∷ codes "I7" ∷ [] ∷ codes "W1" ∷ codes "A8" ∷ [] ∷ codes "W1" ∷ [] ∷ codes "P1" ∷ codes "C8" ∷ codes "L2" ∷ codes "I8" ∷ codes "A4" ∷ codes "I3" ∷ codes "K2" ∷ codes "I6" ∷ [] ∷ codes "K1" ∷ [] ∷ codes "I5" ∷ codes "C4" ∷ codes "I8" ∷ codes "S7" ∷ [] ∷ codes "A4" ∷ codes "S7" ∷ []) (Some (Opened 0 0 0) ∷ Some (Opened 1 0 1) ∷ Some (CallFailed 4294967297 1009) ∷ Some (Late) ∷ Some (NotBegun) ∷ Some (Failed) ∷ Some (Answered 12884901889 (0 ∷ 0 ∷ 0 ∷ 0 ∷ 0 ∷ 0 ∷ 0 ∷ 97 ∷ []) []) ∷ Some (NotBegun) ∷ Some (CallFailed 8589934593 3001) ∷ Some (Gone (record { 0 = 8589934593 })) ∷ Some (Answered 1 [] []) ∷ [], (48, 4294967298) ∷ (80, 4294967297) ∷ [], ([]) ∷ (80 ∷ 82 ∷ 80 ∷ 67 ∷ 0 ∷ 0 ∷ 0 ∷ 16 ∷ 0 ∷ 0 ∷ 0 ∷ 16 ∷ 10 ∷ 12 ∷ 10 ∷ 4 ∷ 69 ∷ 99 ∷ 104 ∷ 111 ∷ 18 ∷ 4 ∷ 69 ∷ 99 ∷ 104 ∷ 111 ∷ 32 ∷ 2 ∷ 80 ∷ 82 ∷ 80 ∷ 67 ∷ 0 ∷ 0 ∷ 0 ∷ 21 ∷ 0 ∷ 0 ∷ 0 ∷ 20 ∷ 10 ∷ 12 ∷ 10 ∷ 3 ∷ 83 ∷ 117 ∷ 109 ∷ 18 ∷ 5 ∷ 66 ∷ 121 ∷ 116 ∷ 101 ∷ 115 ∷ 32 ∷ 130 ∷ 128 ∷ 128 ∷ 128 ∷ 48 ∷ 97 ∷ []) ∷ [])
unfolding decode_pairs encode_with digits
row_s1_10 = (refl, refl)

row_s1_11 : Draws (codes "slots 1\nrequests 4\nopen a serve end=0\nopen b\nclient\nsend b 61\nsend b 61\nclient\nfail b 1500\ncall a Echo.Reverse 61 retry=1\nclient\ncall b Echo.Reverse -\ncall a,b Echo.Reverse 6869 att=01 retry=2\nclient\nopen b serve\n") (33 ∷ 34 ∷ 1 ∷ 33 ∷ 2 ∷ 33 ∷ 2 ∷ 4 ∷ 2 ∷ 3 ∷ 2 ∷ 1 ∷ 2 ∷ 34 ∷ 34 ∷ 2 ∷ 1 ∷ 3 ∷ 2 ∷ 4 ∷ 2 ∷ 1 ∷ 1 ∷ 1 ∷ 4 ∷ 3 ∷ 1 ∷ 1 ∷ 3 ∷ 34 ∷ 1 ∷ 1 ∷ 2 ∷ 3 ∷ 3 ∷ 33 ∷ 4 ∷ 1 ∷ 2 ∷ 34 ∷ 33 ∷ 4 ∷ 33 ∷ 1 ∷ 33 ∷ 1 ∷ 34 ∷ 3 ∷ 2 ∷ 3 ∷ 2 ∷ 2 ∷ 3 ∷ 2 ∷ 32 ∷ 33 ∷ 4 ∷ 3 ∷ 4 ∷ 3 ∷ 4 ∷ 4 ∷ 1 ∷ 34 ∷ 4 ∷ 2 ∷ 2 ∷ 1 ∷ 32 ∷ 32 ∷ 4 ∷ 33 ∷ 4 ∷ 2 ∷ 32 ∷ 3 ∷ 33 ∷ 4 ∷ 3 ∷ 1 ∷ 3 ∷ 32 ∷ 32 ∷ 4 ∷ 3 ∷ 33 ∷ 33 ∷ 2 ∷ 1 ∷ 2 ∷ 2 ∷ 4 ∷ 4 ∷ 34 ∷ 34 ∷ 32 ∷ 1 ∷ 2 ∷ 4 ∷ 2 ∷ 4 ∷ 3 ∷ 3 ∷ 4 ∷ 1 ∷ 2 ∷ 33 ∷ 2 ∷ 3 ∷ 33 ∷ 4 ∷ 4 ∷ 1 ∷ 33 ∷ 4 ∷ 33 ∷ 1 ∷ 4 ∷ 34 ∷ 3 ∷ 32 ∷ 4 ∷ 3 ∷ 4 ∷ 2 ∷ 2 ∷ 1 ∷ 3 ∷ 3 ∷ 2 ∷ 3 ∷ 3 ∷ 33 ∷ 32 ∷ 1 ∷ 4 ∷ 32 ∷ 3 ∷ 4 ∷ 4 ∷ 32 ∷ 32 ∷ 1 ∷ 3 ∷ 32 ∷ 33 ∷ 32 ∷ 1 ∷ 33 ∷ 4 ∷ 1 ∷ 34 ∷ 3 ∷ 34 ∷ 1 ∷ 2 ∷ 2 ∷ 3 ∷ 3 ∷ 34 ∷ []) (codes "S7" ∷ [] ∷ codes "S7" ∷ [] ∷ codes "S7" ∷ [] ∷ codes "S7" ∷ codes "A1" ∷ codes "I1" ∷ codes "S7" ∷ codes "K1" ∷ codes "S7" ∷ codes "I2" ∷ [] ∷ [] ∷ codes "T1" ∷ [] ∷ codes "S7" ∷ codes "A3" ∷ codes "L1" ∷ codes "S2" ∷ [] ∷ [] ∷ [] ∷ codes "W3" ∷ codes "I1" ∷ [] ∷ [] ∷ codes "I1" ∷ [] ∷ [] ∷ [] ∷ codes "T1" ∷ codes "K1" ∷ codes "I2" ∷ [] ∷ codes "L2" ∷ [] ∷ codes "A8" ∷ [] ∷ [] ∷ codes "S6" ∷ [] ∷ [] ∷ [] ∷ [] ∷ codes "S7" ∷ codes "T1" ∷ codes "C1" ∷ codes "A3" ∷ codes "M1" ∷ codes "C7" ∷ codes "S2" ∷ codes "C2" ∷ codes "S7" ∷ [] ∷ [] ∷ codes "T1" ∷ [] ∷ codes "A8" ∷ [] ∷ [] ∷ [] ∷ [] ∷ [] ∷ codes "S2" ∷ codes "L1" ∷ [] ∷ codes "R1" ∷ codes "A3" ∷ [] ∷ [] ∷ [] ∷ codes "M2" ∷ codes "A5" ∷ codes "C1" ∷ [] ∷ [] ∷ codes "C1" ∷ [] ∷ codes "M1" ∷ codes "S4" ∷ codes "A4" ∷ [] ∷ codes "C7" ∷ [] ∷ [] ∷ codes "A8" ∷ [] ∷ codes "A8" ∷ codes "S5" ∷ [] ∷ [] ∷ [] ∷ [] ∷ codes "A4" ∷ [] ∷ codes "P1" ∷ [] ∷ codes "C8" ∷ [] ∷ codes "C2" ∷ codes "C3" ∷ [] ∷ [] ∷ codes "I7" ∷ [] ∷ codes "I4" ∷ codes "A4" ∷ [] ∷ [] ∷ [] ∷ [] ∷ [] ∷ [] ∷ [] ∷ [] ∷ [] ∷ [] ∷ [] ∷ codes "T2" ∷ [] ∷ [] ∷ [] ∷ codes "K2" ∷ codes "I6" ∷ [] ∷ [] ∷ [] ∷ codes "I8" ∷ [] ∷ [] ∷ [] ∷ codes "I7" ∷ [] ∷ [] ∷ codes "T2" ∷ [] ∷ [] ∷ [] ∷ codes "T2" ∷ codes "I7" ∷ [] ∷ [] ∷ codes "I4" ∷ [] ∷ codes "K2" ∷ [] ∷ [] ∷ [] ∷ [] ∷ [] ∷ [] ∷ [] ∷ [] ∷ codes "L2" ∷ codes "C4" ∷ [] ∷ [] ∷ [] ∷ []) (Some (Opened 0 0 0) ∷ Some (SlotsFull) ∷ Some (Unopened) ∷ Some (Unopened) ∷ Some (Unopened) ∷ Some (CallFailed 1 1014) ∷ Some (Unopened) ∷ Some (CallFailed 4294967297 1014) ∷ Some (SlotsFull) ∷ [], (40, 9223372036854775809) ∷ (56, 9223372036854775810) ∷ [], ([]) ∷ ([]) ∷ ([]) ∷ [])
unfolding decode_pairs encode_with digits
row_s1_11 = (refl, refl)

row_s1_12 : Draws (codes "slots 3\nrequests 2\nopen a fail=1\nopen b fail=2 serve\nclient\ncall b Sum.Bytes 61 att=01\nfail a 1500\nsend a 61\nclient\nfail b 1501\nfail a 1501\n") (1 ∷ 33 ∷ 2 ∷ 1 ∷ 2 ∷ 2 ∷ 1 ∷ 32 ∷ 1 ∷ 2 ∷ 2 ∷ 32 ∷ 2 ∷ 32 ∷ 33 ∷ 2 ∷ 32 ∷ 2 ∷ 1 ∷ 2 ∷ 1 ∷ 2 ∷ 32 ∷ 2 ∷ 2 ∷ 2 ∷ 2 ∷ 33 ∷ 2 ∷ 1 ∷ 33 ∷ 1 ∷ 2 ∷ 1 ∷ 2 ∷ 2 ∷ 1 ∷ 32 ∷ 1 ∷ 1 ∷ 2 ∷ 1 ∷ 2 ∷ 2 ∷ 33 ∷ 2 ∷ 1 ∷ 33 ∷ 33 ∷ 1 ∷ 33 ∷ 32 ∷ 2 ∷ 1 ∷ 1 ∷ 2 ∷ 1 ∷ 2 ∷ 2 ∷ 2 ∷ 2 ∷ 2 ∷ 1 ∷ 32 ∷ 1 ∷ 32 ∷ 1 ∷ 1 ∷ 2 ∷ 33 ∷ 32 ∷ 33 ∷ 1 ∷ 33 ∷ 32 ∷ 1 ∷ 32 ∷ 32 ∷ 2 ∷ 1 ∷ 2 ∷ 33 ∷ 2 ∷ 32 ∷ 2 ∷ 2 ∷ 2 ∷ 32 ∷ 2 ∷ 32 ∷ 2 ∷ 1 ∷ 1 ∷ 32 ∷ 1 ∷ 1 ∷ 2 ∷ 1 ∷ 1 ∷ 1 ∷ 1 ∷ 32 ∷ 32 ∷ 33 ∷ 2 ∷ 2 ∷ 1 ∷ 2 ∷ 1 ∷ 2 ∷ 33 ∷ 2 ∷ 33 ∷ 2 ∷ 1 ∷ 2 ∷ 33 ∷ 1 ∷ 32 ∷ 32 ∷ 2 ∷ 2 ∷ 1 ∷ 32 ∷ 1 ∷ 2 ∷ 2 ∷ 33 ∷ 1 ∷ 1 ∷ 2 ∷ 1 ∷ 1 ∷ 1 ∷ 2 ∷ 2 ∷ 1 ∷ 32 ∷ 33 ∷ 2 ∷ 1 ∷ 2 ∷ 2 ∷ 2 ∷ 1 ∷ 32 ∷ 33 ∷ 33 ∷ 32 ∷ 1 ∷ 2 ∷ 2 ∷ 2 ∷ 2 ∷ 32 ∷ 2 ∷ 2 ∷ 1 ∷ 2 ∷ 32 ∷ []) (codes "S7" ∷ codes "S7" ∷ codes "S7" ∷ codes "I1" ∷ codes "A3" ∷ codes "A5" ∷ codes "K1" ∷ codes "S7" ∷ codes "I2" ∷ codes "S4" ∷ codes "A4" ∷ [] ∷ codes "A4" ∷ [] ∷ [] ∷ codes "A6" ∷ [] ∷ codes "S2" ∷ codes "T1" ∷ codes "L1" ∷ codes "A3" ∷ codes "W3" ∷ [] ∷ codes "L2" ∷ codes "A7" ∷ codes "S7" ∷ codes "A3" ∷ codes "R1" ∷ codes "A5" ∷ codes "A4" ∷ codes "T2" ∷ codes "I7" ∷ codes "S4" ∷ codes "I4" ∷ codes "A4" ∷ codes "A4" ∷ codes "K2" ∷ [] ∷ codes "I6" ∷ codes "I8" ∷ codes "A6" ∷ codes "S7" ∷ codes "S2" ∷ codes "L1" ∷ [] ∷ codes "W3" ∷ codes "A3" ∷ [] ∷ [] ∷ codes "A4" ∷ [] ∷ codes "R1" ∷ codes "L2" ∷ codes "S7" ∷ codes "A3" ∷ codes "A7" ∷ codes "A4" ∷ [] ∷ [] ∷ [] ∷ [] ∷ [] ∷ [] ∷ codes "T2" ∷ [] ∷ [] ∷ [] ∷ [] ∷ [] ∷ [] ∷ [] ∷ [] ∷ [] ∷ [] ∷ [] ∷ [] ∷ [] ∷ [] ∷ [] ∷ [] ∷ [] ∷ [] ∷ [] ∷ [] ∷ [] ∷ [] ∷ [] ∷ [] ∷ [] ∷ [] ∷ [] ∷ [] ∷ [] ∷ [] ∷ [] ∷ [] ∷ [] ∷ [] ∷ [] ∷ [] ∷ [] ∷ [] ∷ [] ∷ [] ∷ [] ∷ [] ∷ [] ∷ [] ∷ [] ∷ [] ∷ [] ∷ [] ∷ [] ∷ [] ∷ [] ∷ [] ∷ [] ∷ [] ∷ [] ∷ [] ∷ [] ∷ [] ∷ [] ∷ [] ∷ [] ∷ [] ∷ [] ∷ [] ∷ [] ∷ [] ∷ [] ∷ [] ∷ [] ∷ [] ∷ [] ∷ [] ∷ [] ∷ [] ∷ [] ∷ [] ∷ [] ∷ [] ∷ [] ∷ [] ∷ [] ∷ [] ∷ [] ∷ [] ∷ [] ∷ [] ∷ [] ∷ [] ∷ [] ∷ [] ∷ [] ∷ [] ∷ [] ∷ [] ∷ [] ∷ [] ∷ []) (Some (Opened 0 0 0) ∷ Some (Opened 1 0 1) ∷ Some (CallFailed 1 1009) ∷ Some (Gone (record { 0 = 8589934592 })) ∷ Some (Gone (record { 0 = 8589934592 })) ∷ Some (Failed) ∷ Some (Failed) ∷ [], [], ([]) ∷ ([]) ∷ [])
unfolding decode_pairs encode_with digits
row_s1_12 = (refl, refl)

row_s1_13 : Draws (codes "slots 3\nrequests 2\nopen a serve end=1\nopen b piece=30 serve\nclient\nsend a 61\n") (32 ∷ 1 ∷ 32 ∷ 32 ∷ 1 ∷ 33 ∷ 33 ∷ 1 ∷ 33 ∷ 1 ∷ 1 ∷ 1 ∷ 1 ∷ 32 ∷ 1 ∷ 32 ∷ 1 ∷ 1 ∷ 1 ∷ 1 ∷ 33 ∷ 32 ∷ 1 ∷ 33 ∷ 33 ∷ 32 ∷ 1 ∷ 33 ∷ 32 ∷ 32 ∷ 33 ∷ 33 ∷ 33 ∷ 32 ∷ 1 ∷ 1 ∷ 1 ∷ 1 ∷ 1 ∷ 1 ∷ 1 ∷ 1 ∷ 33 ∷ 33 ∷ 33 ∷ 1 ∷ 1 ∷ 1 ∷ 1 ∷ 1 ∷ 33 ∷ 32 ∷ 33 ∷ 1 ∷ 1 ∷ 32 ∷ 33 ∷ 32 ∷ 1 ∷ 33 ∷ 1 ∷ 32 ∷ 1 ∷ 32 ∷ 1 ∷ 1 ∷ 1 ∷ 33 ∷ 1 ∷ 1 ∷ 32 ∷ 1 ∷ 1 ∷ 32 ∷ 1 ∷ 33 ∷ 1 ∷ 33 ∷ 1 ∷ 33 ∷ 1 ∷ 33 ∷ 1 ∷ 1 ∷ 33 ∷ 33 ∷ 1 ∷ 33 ∷ 33 ∷ 32 ∷ 33 ∷ 1 ∷ 1 ∷ 1 ∷ 32 ∷ 1 ∷ 1 ∷ 32 ∷ 1 ∷ 1 ∷ 1 ∷ 1 ∷ 1 ∷ 33 ∷ 1 ∷ 1 ∷ 32 ∷ 33 ∷ 1 ∷ 33 ∷ 32 ∷ 33 ∷ 1 ∷ 1 ∷ 32 ∷ 33 ∷ 33 ∷ 1 ∷ 32 ∷ 32 ∷ 33 ∷ 33 ∷ 1 ∷ 32 ∷ 1 ∷ 33 ∷ 33 ∷ 32 ∷ 1 ∷ 32 ∷ 33 ∷ 33 ∷ 33 ∷ 33 ∷ 1 ∷ 32 ∷ 1 ∷ 1 ∷ 1 ∷ 33 ∷ 1 ∷ 32 ∷ 32 ∷ 32 ∷ 32 ∷ 1 ∷ 1 ∷ 1 ∷ 33 ∷ 1 ∷ 33 ∷ 33 ∷ 32 ∷ 32 ∷ 1 ∷ 1 ∷ 1 ∷ 32 ∷ 1 ∷ 33 ∷ []) (codes "S7" ∷ codes "S7" ∷ [] ∷ [] ∷ codes "A3" ∷ codes "S7" ∷ [] ∷ codes "A8" ∷ [] ∷ codes "C1" ∷ codes "M1" ∷ codes "C7" ∷ codes "C2" ∷ [] ∷ codes "S2" ∷ [] ∷ codes "L1" ∷ codes "M2" ∷ codes "A8" ∷ codes "W1" ∷ [] ∷ codes "R1" ∷ codes "P1" ∷ [] ∷ [] ∷ codes "A3" ∷ codes "C8" ∷ [] ∷ codes "A5" ∷ codes "S4" ∷ [] ∷ [] ∷ [] ∷ codes "A4" ∷ codes "L2" ∷ codes "C4" ∷ codes "A4" ∷ [] ∷ [] ∷ [] ∷ [] ∷ [] ∷ [] ∷ [] ∷ [] ∷ [] ∷ [] ∷ [] ∷ [] ∷ [] ∷ [] ∷ codes "A4" ∷ [] ∷ [] ∷ [] ∷ codes "A6" ∷ [] ∷ codes "S2" ∷ [] ∷ [] ∷ [] ∷ codes "L1" ∷ [] ∷ codes "W3" ∷ [] ∷ [] ∷ [] ∷ [] ∷ [] ∷ [] ∷ codes "L2" ∷ [] ∷ [] ∷ codes "A7" ∷ [] ∷ [] ∷ [] ∷ [] ∷ [] ∷ [] ∷ [] ∷ [] ∷ [] ∷ [] ∷ [] ∷ [] ∷ [] ∷ [] ∷ [] ∷ [] ∷ [] ∷ [] ∷ [] ∷ [] ∷ [] ∷ [] ∷ [] ∷ [] ∷ [] ∷ [] ∷ [] ∷ [] ∷ [] ∷ [] ∷ [] ∷ [] ∷ [] ∷ [] ∷ [] ∷ [] ∷ [] ∷ [] ∷ [] ∷ [] ∷ [] ∷ [] ∷ [] ∷ [] ∷ [] ∷ [] ∷ [] ∷ [] ∷ [] ∷ [] ∷ [] ∷ [] ∷ [] ∷ [] ∷ [] ∷ [] ∷ [] ∷ [] ∷ [] ∷ [] ∷ [] ∷ [] ∷ [] ∷ [] ∷ [] ∷ [] ∷ [] ∷ [] ∷ [] ∷ [] ∷ [] ∷ [] ∷ [] ∷ [] ∷ [] ∷ [] ∷ [] ∷ [] ∷ [] ∷ [] ∷ [] ∷ [] ∷ [] ∷ [] ∷ [] ∷ [] ∷ []) (Some (Opened 0 0 0) ∷ Some (Opened 1 0 1) ∷ None ∷ [], (16, 1) ∷ [], (97 ∷ []) ∷ ([]) ∷ [])
unfolding decode_pairs encode_with digits
row_s1_13 = (refl, refl)

row_s1_14 : Draws (codes "slots 2\nrequests 1\nopen b again=2 serve\nclient\nsend b 61\nclient\ncall a,b Echo.Reverse 61\nclient\ncall b,a Echo.Reverse 6869\nclient\ncall a Sum.Bytes 6869 att=01 retry=1\nfail a 1500\ncall b,a Sum.Bytes 6869\n") (4 ∷ 4 ∷ 1 ∷ 2 ∷ 2 ∷ 4 ∷ 2 ∷ 4 ∷ 4 ∷ 1 ∷ 3 ∷ 32 ∷ 3 ∷ 2 ∷ 4 ∷ 1 ∷ 4 ∷ 1 ∷ 1 ∷ 1 ∷ 4 ∷ 3 ∷ 3 ∷ 1 ∷ 3 ∷ 4 ∷ 32 ∷ 1 ∷ 3 ∷ 4 ∷ 4 ∷ 2 ∷ 1 ∷ 3 ∷ 4 ∷ 32 ∷ 2 ∷ 2 ∷ 4 ∷ 4 ∷ 4 ∷ 2 ∷ 3 ∷ 4 ∷ 2 ∷ 3 ∷ 3 ∷ 32 ∷ 3 ∷ 1 ∷ 3 ∷ 3 ∷ 3 ∷ 3 ∷ 1 ∷ 1 ∷ 3 ∷ 3 ∷ 2 ∷ 4 ∷ 1 ∷ 4 ∷ 3 ∷ 1 ∷ 32 ∷ 2 ∷ 2 ∷ 3 ∷ 32 ∷ 32 ∷ 1 ∷ 1 ∷ 32 ∷ 2 ∷ 2 ∷ 4 ∷ 1 ∷ 2 ∷ 1 ∷ 3 ∷ 2 ∷ 3 ∷ 3 ∷ 1 ∷ 4 ∷ 3 ∷ 32 ∷ 3 ∷ 4 ∷ 4 ∷ 32 ∷ 1 ∷ 3 ∷ 1 ∷ 3 ∷ 2 ∷ 4 ∷ 1 ∷ 4 ∷ 2 ∷ 1 ∷ 1 ∷ 2 ∷ 1 ∷ 2 ∷ 2 ∷ 1 ∷ 1 ∷ 2 ∷ 1 ∷ 2 ∷ 32 ∷ 4 ∷ 2 ∷ 2 ∷ 3 ∷ 2 ∷ 32 ∷ 4 ∷ 2 ∷ 4 ∷ 4 ∷ 4 ∷ 1 ∷ 1 ∷ 32 ∷ 2 ∷ 1 ∷ 1 ∷ 4 ∷ 1 ∷ 4 ∷ 3 ∷ 4 ∷ 3 ∷ 2 ∷ 1 ∷ 3 ∷ 4 ∷ 3 ∷ 3 ∷ 32 ∷ 2 ∷ 2 ∷ 3 ∷ 4 ∷ 3 ∷ 1 ∷ 4 ∷ 4 ∷ 3 ∷ 2 ∷ 1 ∷ 4 ∷ 1 ∷ 32 ∷ 4 ∷ 2 ∷ 2 ∷ 2 ∷ []) (codes "S7" ∷ codes "S7" ∷ codes "S7" ∷ codes "S7" ∷ [] ∷ codes "S7" ∷ [] ∷ codes "I1" ∷ codes "K1" ∷ codes "A3" ∷ codes "S7" ∷ codes "S7" ∷ codes "I1" ∷ [] ∷ codes "I2" ∷ codes "A8" ∷ codes "T1" ∷ codes "C1" ∷ codes "M1" ∷ codes "C7" ∷ codes "A3" ∷ codes "I1" ∷ codes "K1" ∷ codes "C2" ∷ codes "I2" ∷ codes "S2" ∷ [] ∷ codes "S2" ∷ codes "T1" ∷ codes "T1" ∷ codes "A8" ∷ [] ∷ codes "L1" ∷ codes "A3" ∷ codes "C1" ∷ [] ∷ [] ∷ [] ∷ codes "I7" ∷ codes "I4" ∷ codes "K2" ∷ [] ∷ codes "S2" ∷ codes "I6" ∷ [] ∷ codes "T1" ∷ codes "A8" ∷ [] ∷ codes "C1" ∷ codes "M2" ∷ codes "I7" ∷ codes "I4" ∷ codes "K2" ∷ codes "I6" ∷ codes "A8" ∷ codes "W1" ∷ codes "I8" ∷ codes "A4" ∷ [] ∷ codes "I8" ∷ codes "P1" ∷ codes "A4" ∷ [] ∷ codes "C8" ∷ codes "R1" ∷ [] ∷ [] ∷ [] ∷ codes "A3" ∷ codes "A5" ∷ codes "L2" ∷ codes "C4" ∷ codes "S4" ∷ [] ∷ [] ∷ [] ∷ codes "A4" ∷ [] ∷ [] ∷ [] ∷ [] ∷ [] ∷ [] ∷ [] ∷ [] ∷ [] ∷ codes "A4" ∷ [] ∷ [] ∷ [] ∷ codes "A4" ∷ [] ∷ [] ∷ [] ∷ [] ∷ [] ∷ [] ∷ [] ∷ [] ∷ [] ∷ [] ∷ [] ∷ [] ∷ [] ∷ [] ∷ [] ∷ [] ∷ [] ∷ [] ∷ [] ∷ [] ∷ codes "A6" ∷ [] ∷ [] ∷ [] ∷ [] ∷ [] ∷ codes "S2" ∷ [] ∷ [] ∷ [] ∷ [] ∷ [] ∷ [] ∷ [] ∷ codes "L1" ∷ [] ∷ [] ∷ [] ∷ [] ∷ [] ∷ [] ∷ [] ∷ [] ∷ [] ∷ [] ∷ [] ∷ [] ∷ [] ∷ [] ∷ [] ∷ codes "W3" ∷ [] ∷ [] ∷ [] ∷ [] ∷ [] ∷ [] ∷ [] ∷ [] ∷ [] ∷ [] ∷ [] ∷ [] ∷ [] ∷ codes "L2" ∷ [] ∷ [] ∷ [] ∷ [] ∷ []) (Some (Opened 0 0 0) ∷ None ∷ Some (Unopened) ∷ Some (CallFailed 4294967297 3001) ∷ Some (Unopened) ∷ Some (Unopened) ∷ Some (CallFailed 1 3001) ∷ [], (8, 1) ∷ [], (97 ∷ []) ∷ [])
unfolding decode_pairs encode_with digits
row_s1_14 = (refl, refl)

row_s1_15 : Draws (codes "slots 1\nrequests 2\nopen a again=2 serve\nclient\ncall a Sum.Bytes 6869 att=01 retry=1\nclient\ncall a No.Op 61\ncall a Echo.Echo 61\n") (2 ∷ 32 ∷ 32 ∷ 1 ∷ 2 ∷ 1 ∷ 32 ∷ 2 ∷ 2 ∷ 2 ∷ 32 ∷ 1 ∷ 2 ∷ 2 ∷ 1 ∷ 1 ∷ 2 ∷ 1 ∷ 32 ∷ 1 ∷ 32 ∷ 32 ∷ 1 ∷ 2 ∷ 2 ∷ 1 ∷ 32 ∷ 1 ∷ 1 ∷ 1 ∷ 32 ∷ 2 ∷ 2 ∷ 32 ∷ 32 ∷ 32 ∷ 2 ∷ 1 ∷ 1 ∷ 2 ∷ 2 ∷ 32 ∷ 2 ∷ 2 ∷ 32 ∷ 2 ∷ 32 ∷ 1 ∷ 32 ∷ 1 ∷ 1 ∷ 2 ∷ 2 ∷ 1 ∷ 2 ∷ 1 ∷ 2 ∷ 32 ∷ 2 ∷ 32 ∷ 1 ∷ 1 ∷ 2 ∷ 32 ∷ 2 ∷ 32 ∷ 2 ∷ 32 ∷ 1 ∷ 32 ∷ 1 ∷ 2 ∷ 2 ∷ 1 ∷ 2 ∷ 1 ∷ 32 ∷ 1 ∷ 32 ∷ 1 ∷ 2 ∷ 32 ∷ 32 ∷ 32 ∷ 2 ∷ 2 ∷ 1 ∷ 2 ∷ 2 ∷ 2 ∷ 1 ∷ 2 ∷ 1 ∷ 1 ∷ 2 ∷ 1 ∷ 1 ∷ 32 ∷ 2 ∷ 2 ∷ 2 ∷ 2 ∷ 32 ∷ 2 ∷ 1 ∷ 2 ∷ 2 ∷ 1 ∷ 2 ∷ 1 ∷ 32 ∷ 2 ∷ 2 ∷ 32 ∷ 1 ∷ 2 ∷ 32 ∷ 2 ∷ 2 ∷ 1 ∷ 2 ∷ 1 ∷ 2 ∷ 32 ∷ 2 ∷ 2 ∷ 32 ∷ 1 ∷ 2 ∷ 32 ∷ 1 ∷ 1 ∷ 1 ∷ 2 ∷ 32 ∷ 2 ∷ 1 ∷ 2 ∷ 1 ∷ 2 ∷ 2 ∷ 1 ∷ 32 ∷ 1 ∷ 1 ∷ 1 ∷ 1 ∷ 32 ∷ 32 ∷ 32 ∷ 1 ∷ 2 ∷ 32 ∷ 2 ∷ 2 ∷ 1 ∷ 2 ∷ 2 ∷ 2 ∷ 2 ∷ []) (codes "S7" ∷ codes "S7" ∷ [] ∷ codes "S7" ∷ codes "I1" ∷ codes "I1" ∷ [] ∷ codes "K1" ∷ codes "I2" ∷ codes "T1" ∷ [] ∷ codes "I1" ∷ codes "A3" ∷ codes "S2" ∷ codes "K1" ∷ codes "I2" ∷ codes "T1" ∷ codes "T1" ∷ [] ∷ codes "A3" ∷ [] ∷ [] ∷ codes "S2" ∷ codes "A8" ∷ codes "C1" ∷ codes "T1" ∷ [] ∷ codes "A8" ∷ codes "C1" ∷ codes "C1" ∷ [] ∷ codes "M1" ∷ codes "C7" ∷ [] ∷ [] ∷ [] ∷ codes "C2" ∷ codes "M1" ∷ codes "C7" ∷ codes "S2" ∷ codes "L1" ∷ [] ∷ codes "M2" ∷ codes "A8" ∷ [] ∷ codes "W1" ∷ [] ∷ codes "C2" ∷ [] ∷ codes "C3" ∷ codes "A4" ∷ codes "A8" ∷ codes "W1" ∷ [] ∷ codes "W2" ∷ [] ∷ codes "A8" ∷ [] ∷ codes "W1" ∷ codes "R1" ∷ [] ∷ [] ∷ codes "P1" ∷ codes "I7" ∷ codes "C8" ∷ codes "I3" ∷ codes "L2" ∷ codes "K2" ∷ [] ∷ codes "I6" ∷ [] ∷ codes "C4" ∷ codes "L1" ∷ [] ∷ codes "C5" ∷ [] ∷ codes "I8" ∷ [] ∷ [] ∷ [] ∷ codes "C6" ∷ [] ∷ [] ∷ [] ∷ codes "M2" ∷ codes "A8" ∷ [] ∷ codes "W1" ∷ codes "W2" ∷ codes "A8" ∷ [] ∷ codes "W1" ∷ [] ∷ [] ∷ codes "A8" ∷ [] ∷ [] ∷ [] ∷ codes "W1" ∷ codes "W2" ∷ codes "A8" ∷ codes "W1" ∷ [] ∷ codes "A8" ∷ [] ∷ codes "W1" ∷ codes "W2" ∷ [] ∷ codes "A8" ∷ [] ∷ [] ∷ codes "W1" ∷ codes "P1" ∷ codes "R1" ∷ [] ∷ codes "C8" ∷ codes "I7" ∷ codes "L2" ∷ codes "C4" ∷ [] ∷ codes "A4" ∷ [] ∷ codes "S7" ∷ codes "I3" ∷ codes "I1" ∷ codes "K1" ∷ codes "K2" ∷ [] ∷ codes "I2" ∷ codes "I6" ∷ [] ∷ [] ∷ [] ∷ codes "T1" ∷ codes "I8" ∷ codes "A3" ∷ [] ∷ codes "S2" ∷ [] ∷ codes "T1" ∷ codes "A8" ∷ [] ∷ [] ∷ [] ∷ [] ∷ [] ∷ [] ∷ [] ∷ [] ∷ [] ∷ [] ∷ codes "C1" ∷ [] ∷ codes "M1" ∷ codes "C7" ∷ [] ∷ codes "C2" ∷ codes "S2" ∷ codes "L1" ∷ codes "M2" ∷ []) (Some (Opened 0 0 0) ∷ Some (Answered 4294967297 (0 ∷ 0 ∷ 0 ∷ 0 ∷ 0 ∷ 0 ∷ 0 ∷ 209 ∷ []) []) ∷ Some (Peer 1 (pos 1001)) ∷ Some (Answered 3 (97 ∷ []) []) ∷ [], (8, 2) ∷ (16, 1) ∷ (24, 3) ∷ [], (80 ∷ 82 ∷ 80 ∷ 67 ∷ 0 ∷ 0 ∷ 0 ∷ 13 ∷ 0 ∷ 0 ∷ 0 ∷ 12 ∷ 10 ∷ 8 ∷ 10 ∷ 2 ∷ 78 ∷ 111 ∷ 18 ∷ 2 ∷ 79 ∷ 112 ∷ 32 ∷ 2 ∷ 97 ∷ 80 ∷ 82 ∷ 80 ∷ 67 ∷ 0 ∷ 0 ∷ 0 ∷ 25 ∷ 0 ∷ 0 ∷ 0 ∷ 22 ∷ 10 ∷ 12 ∷ 10 ∷ 3 ∷ 83 ∷ 117 ∷ 109 ∷ 18 ∷ 5 ∷ 66 ∷ 121 ∷ 116 ∷ 101 ∷ 115 ∷ 32 ∷ 130 ∷ 128 ∷ 128 ∷ 128 ∷ 16 ∷ 40 ∷ 1 ∷ 104 ∷ 105 ∷ 1 ∷ 80 ∷ 82 ∷ 80 ∷ 67 ∷ 0 ∷ 0 ∷ 0 ∷ 17 ∷ 0 ∷ 0 ∷ 0 ∷ 16 ∷ 10 ∷ 12 ∷ 10 ∷ 4 ∷ 69 ∷ 99 ∷ 104 ∷ 111 ∷ 18 ∷ 4 ∷ 69 ∷ 99 ∷ 104 ∷ 111 ∷ 32 ∷ 4 ∷ 97 ∷ []) ∷ [])
unfolding decode_pairs encode_with digits
row_s1_15 = (refl, refl)

row_s1_16 : Draws (codes "slots 1\nrequests 4\nopen a piece=30 fail=2 serve\nclient\ncall a No.Op - retry=2\nexpire 1.1\nclient\ncall a Echo.Reverse - att=01 retry=2\n") (1 ∷ 1 ∷ 2 ∷ 1 ∷ 2 ∷ 2 ∷ 1 ∷ 1 ∷ 1 ∷ 2 ∷ 32 ∷ 2 ∷ 2 ∷ 2 ∷ 2 ∷ 2 ∷ 1 ∷ 2 ∷ 1 ∷ 2 ∷ 1 ∷ 1 ∷ 2 ∷ 32 ∷ 32 ∷ 32 ∷ 2 ∷ 1 ∷ 2 ∷ 2 ∷ 1 ∷ 32 ∷ 2 ∷ 2 ∷ 1 ∷ 32 ∷ 2 ∷ 2 ∷ 2 ∷ 32 ∷ 2 ∷ 1 ∷ 2 ∷ 1 ∷ 32 ∷ 1 ∷ 1 ∷ 2 ∷ 2 ∷ 2 ∷ 2 ∷ 2 ∷ 32 ∷ 32 ∷ 32 ∷ 32 ∷ 32 ∷ 2 ∷ 1 ∷ 2 ∷ 2 ∷ 1 ∷ 1 ∷ 2 ∷ 2 ∷ 32 ∷ 2 ∷ 1 ∷ 2 ∷ 1 ∷ 32 ∷ 32 ∷ 32 ∷ 2 ∷ 1 ∷ 1 ∷ 1 ∷ 1 ∷ 2 ∷ 2 ∷ 1 ∷ 32 ∷ 1 ∷ 2 ∷ 1 ∷ 2 ∷ 2 ∷ 1 ∷ 2 ∷ 2 ∷ 1 ∷ 2 ∷ 1 ∷ 2 ∷ 1 ∷ 1 ∷ 2 ∷ 32 ∷ 2 ∷ 1 ∷ 1 ∷ 1 ∷ 1 ∷ 32 ∷ 2 ∷ 2 ∷ 1 ∷ 32 ∷ 2 ∷ 1 ∷ 1 ∷ 1 ∷ 2 ∷ 2 ∷ 1 ∷ 1 ∷ 2 ∷ 2 ∷ 32 ∷ 1 ∷ 2 ∷ 2 ∷ 2 ∷ 32 ∷ 1 ∷ 2 ∷ 2 ∷ 1 ∷ 1 ∷ 1 ∷ 2 ∷ 1 ∷ 32 ∷ 1 ∷ 32 ∷ 2 ∷ 2 ∷ 1 ∷ 32 ∷ 2 ∷ 2 ∷ 2 ∷ 1 ∷ 32 ∷ 32 ∷ 2 ∷ 2 ∷ 1 ∷ 2 ∷ 2 ∷ 2 ∷ 2 ∷ 2 ∷ 1 ∷ 1 ∷ 32 ∷ 1 ∷ 1 ∷ 1 ∷ 2 ∷ []) (codes "S7" ∷ codes "I1" ∷ codes "S7" ∷ codes "K1" ∷ codes "I1" ∷ codes "I1" ∷ codes "I2" ∷ codes "T1" ∷ codes "A3" ∷ codes "K1" ∷ codes "S7" ∷ codes "I2" ∷ codes "T1" ∷ codes "A3" ∷ codes "S2" ∷ codes "T1" ∷ codes "S2" ∷ codes "A8" ∷ codes "T1" ∷ codes "C1" ∷ codes "A8" ∷ codes "C1" ∷ codes "M1" ∷ [] ∷ [] ∷ [] ∷ codes "C7" ∷ codes "C1" ∷ codes "C2" ∷ codes "S2" ∷ codes "M1" ∷ [] ∷ codes "L1" ∷ codes "M2" ∷ codes "C7" ∷ [] ∷ codes "A8" ∷ codes "W1" ∷ codes "A8" ∷ [] ∷ codes "W1" ∷ codes "C2" ∷ codes "A5" ∷ codes "C3" ∷ [] ∷ codes "A4" ∷ codes "T2" ∷ codes "S4" ∷ codes "A4" ∷ codes "A8" ∷ codes "S5" ∷ codes "P1" ∷ [] ∷ [] ∷ [] ∷ [] ∷ [] ∷ codes "C8" ∷ codes "I7" ∷ codes "I7" ∷ codes "I4" ∷ codes "I4" ∷ codes "K2" ∷ codes "K2" ∷ codes "K1" ∷ [] ∷ codes "I5" ∷ codes "I6" ∷ codes "L2" ∷ codes "I8" ∷ [] ∷ [] ∷ [] ∷ codes "C4" ∷ [] ∷ [] ∷ [] ∷ [] ∷ codes "L1" ∷ codes "C5" ∷ [] ∷ [] ∷ [] ∷ codes "C6" ∷ [] ∷ codes "M2" ∷ codes "A8" ∷ [] ∷ codes "S5" ∷ codes "P1" ∷ [] ∷ codes "C8" ∷ [] ∷ codes "I7" ∷ [] ∷ [] ∷ codes "L2" ∷ [] ∷ codes "C4" ∷ [] ∷ [] ∷ [] ∷ [] ∷ [] ∷ codes "A4" ∷ codes "A6" ∷ [] ∷ [] ∷ codes "S2" ∷ [] ∷ [] ∷ [] ∷ codes "L1" ∷ codes "W3" ∷ [] ∷ [] ∷ codes "L2" ∷ codes "A7" ∷ codes "R1" ∷ [] ∷ codes "I7" ∷ codes "I3" ∷ codes "K2" ∷ codes "T2" ∷ [] ∷ codes "K1" ∷ codes "I5" ∷ [] ∷ [] ∷ [] ∷ codes "S7" ∷ [] ∷ codes "I7" ∷ [] ∷ codes "T2" ∷ codes "A3" ∷ codes "A4" ∷ [] ∷ codes "I7" ∷ codes "I7" ∷ codes "I4" ∷ codes "K2" ∷ [] ∷ [] ∷ [] ∷ codes "K1" ∷ codes "I5" ∷ [] ∷ codes "I7" ∷ codes "I3" ∷ codes "K2" ∷ codes "K1" ∷ codes "I5" ∷ [] ∷ [] ∷ [] ∷ [] ∷ [] ∷ [] ∷ codes "S7" ∷ []) (Some (Opened 0 0 0) ∷ Some (CallFailed 1 1008) ∷ Some (Expired) ∷ Some (CallFailed 4294967297 1009) ∷ [], (8, 9223372036854775810) ∷ (24, 9223372036854775809) ∷ [], (80 ∷ 82 ∷ 80 ∷ 67 ∷ 0 ∷ 0 ∷ 0 ∷ 26 ∷ 0 ∷ 0 ∷ 0 ∷ 25 ∷ 10 ∷ 15 ∷ 10 ∷ 4 ∷ 69 ∷ 99 ∷ 104 ∷ 111 ∷ 18 ∷ 7 ∷ 82 ∷ 101 ∷ 118 ∷ 101 ∷ 114 ∷ 115 ∷ 101 ∷ 32 ∷ []) ∷ [])
unfolding decode_pairs encode_with digits
row_s1_16 = (refl, refl)

row_s1_17 : Draws (codes "slots 1\nrequests 2\nopen a serve\nopen b serve\nclient\ncall a Sum.Bytes 61 att=01 retry=1\nclient\nexpire 1.1\nexpire 1.1\nexpire 1.1\nclient\njoin 1.1\nclient\ncall a,b Sum.Bytes - retry=2\ncall a,b Echo.Echo 6869 att=01 retry=2\ncall a No.Op 6869 retry=1\n") (1 ∷ 3 ∷ 1 ∷ 32 ∷ 33 ∷ 3 ∷ 3 ∷ 33 ∷ 4 ∷ 1 ∷ 33 ∷ 33 ∷ 1 ∷ 1 ∷ 3 ∷ 32 ∷ 33 ∷ 3 ∷ 3 ∷ 2 ∷ 3 ∷ 4 ∷ 3 ∷ 33 ∷ 32 ∷ 3 ∷ 32 ∷ 2 ∷ 33 ∷ 33 ∷ 33 ∷ 3 ∷ 1 ∷ 3 ∷ 4 ∷ 1 ∷ 1 ∷ 3 ∷ 1 ∷ 3 ∷ 1 ∷ 2 ∷ 1 ∷ 1 ∷ 2 ∷ 2 ∷ 4 ∷ 3 ∷ 4 ∷ 4 ∷ 4 ∷ 1 ∷ 4 ∷ 2 ∷ 2 ∷ 2 ∷ 1 ∷ 33 ∷ 2 ∷ 1 ∷ 1 ∷ 3 ∷ 3 ∷ 2 ∷ 2 ∷ 1 ∷ 3 ∷ 33 ∷ 33 ∷ 4 ∷ 3 ∷ 32 ∷ 33 ∷ 4 ∷ 3 ∷ 2 ∷ 33 ∷ 3 ∷ 32 ∷ 33 ∷ 3 ∷ 2 ∷ 32 ∷ 2 ∷ 1 ∷ 1 ∷ 33 ∷ 1 ∷ 2 ∷ 4 ∷ 2 ∷ 1 ∷ 1 ∷ 1 ∷ 32 ∷ 1 ∷ 33 ∷ 33 ∷ 1 ∷ 4 ∷ 3 ∷ 2 ∷ 4 ∷ 1 ∷ 3 ∷ 32 ∷ 32 ∷ 1 ∷ 2 ∷ 4 ∷ 2 ∷ 3 ∷ 3 ∷ 1 ∷ 2 ∷ 2 ∷ 1 ∷ 4 ∷ 2 ∷ 33 ∷ 3 ∷ 32 ∷ 4 ∷ 33 ∷ 1 ∷ 4 ∷ 4 ∷ 2 ∷ 3 ∷ 3 ∷ 2 ∷ 3 ∷ 33 ∷ 4 ∷ 2 ∷ 1 ∷ 1 ∷ 32 ∷ 1 ∷ 32 ∷ 2 ∷ 4 ∷ 4 ∷ 4 ∷ 4 ∷ 3 ∷ 2 ∷ 1 ∷ 1 ∷ 4 ∷ 32 ∷ 3 ∷ 3 ∷ 4 ∷ 2 ∷ 32 ∷ 1 ∷ 2 ∷ 4 ∷ 2 ∷ []) (codes "S7" ∷ codes "T2" ∷ codes "I1" ∷ codes "S7" ∷ codes "S7" ∷ [] ∷ [] ∷ [] ∷ codes "S7" ∷ codes "K1" ∷ [] ∷ [] ∷ codes "I2" ∷ codes "T1" ∷ [] ∷ [] ∷ [] ∷ [] ∷ [] ∷ codes "T2" ∷ [] ∷ codes "I1" ∷ [] ∷ [] ∷ [] ∷ [] ∷ [] ∷ codes "I7" ∷ [] ∷ [] ∷ [] ∷ [] ∷ codes "A3" ∷ [] ∷ codes "I1" ∷ codes "S2" ∷ codes "T1" ∷ [] ∷ codes "A8" ∷ [] ∷ codes "C1" ∷ codes "I4" ∷ codes "M1" ∷ codes "C7" ∷ codes "K2" ∷ codes "I6" ∷ codes "K1" ∷ [] ∷ codes "I2" ∷ codes "T1" ∷ codes "A3" ∷ codes "C2" ∷ codes "S2" ∷ codes "I8" ∷ codes "T2" ∷ codes "I7" ∷ codes "S2" ∷ [] ∷ codes "T2" ∷ codes "L1" ∷ codes "M2" ∷ [] ∷ [] ∷ codes "I7" ∷ [] ∷ codes "A8" ∷ [] ∷ [] ∷ [] ∷ codes "T1" ∷ [] ∷ [] ∷ [] ∷ codes "A8" ∷ [] ∷ [] ∷ [] ∷ [] ∷ [] ∷ [] ∷ [] ∷ [] ∷ [] ∷ [] ∷ codes "W1" ∷ codes "A8" ∷ [] ∷ codes "W1" ∷ [] ∷ codes "C1" ∷ [] ∷ codes "A8" ∷ codes "W1" ∷ codes "P1" ∷ codes "R1" ∷ codes "C8" ∷ [] ∷ [] ∷ codes "L2" ∷ codes "C1" ∷ [] ∷ [] ∷ codes "M1" ∷ codes "C4" ∷ [] ∷ codes "I7" ∷ [] ∷ codes "A4" ∷ [] ∷ codes "C7" ∷ [] ∷ [] ∷ [] ∷ [] ∷ [] ∷ [] ∷ [] ∷ codes "C2" ∷ [] ∷ [] ∷ [] ∷ [] ∷ codes "S2" ∷ [] ∷ [] ∷ codes "L1" ∷ codes "M2" ∷ [] ∷ [] ∷ [] ∷ [] ∷ [] ∷ [] ∷ codes "A8" ∷ [] ∷ [] ∷ [] ∷ [] ∷ [] ∷ [] ∷ [] ∷ codes "W1" ∷ codes "P1" ∷ codes "C8" ∷ codes "L2" ∷ [] ∷ [] ∷ [] ∷ [] ∷ codes "C4" ∷ codes "R1" ∷ [] ∷ [] ∷ codes "A4" ∷ [] ∷ codes "I7" ∷ [] ∷ [] ∷ codes "S7" ∷ [] ∷ []) (Some (Opened 0 0 0) ∷ Some (SlotsFull) ∷ Some (CallFailed 1 1008) ∷ Some (Expired) ∷ Some (Late) ∷ Some (Late) ∷ Some (NotBegun) ∷ Some (Answered 4294967297 (0 ∷ 0 ∷ 0 ∷ 0 ∷ 0 ∷ 0 ∷ 0 ∷ 0 ∷ []) []) ∷ Some (Answered 4 (104 ∷ 105 ∷ []) (1 ∷ [])) ∷ Some (Peer 8 (pos 1001)) ∷ [], (16, 1) ∷ (56, 2) ∷ (64, 3) ∷ (72, 4) ∷ [], (80 ∷ 82 ∷ 80 ∷ 67 ∷ 0 ∷ 0 ∷ 0 ∷ 20 ∷ 0 ∷ 0 ∷ 0 ∷ 18 ∷ 10 ∷ 12 ∷ 10 ∷ 3 ∷ 83 ∷ 117 ∷ 109 ∷ 18 ∷ 5 ∷ 66 ∷ 121 ∷ 116 ∷ 101 ∷ 115 ∷ 32 ∷ 2 ∷ 40 ∷ 1 ∷ 97 ∷ 1 ∷ 80 ∷ 82 ∷ 80 ∷ 67 ∷ 0 ∷ 0 ∷ 0 ∷ 20 ∷ 0 ∷ 0 ∷ 0 ∷ 20 ∷ 10 ∷ 12 ∷ 10 ∷ 3 ∷ 83 ∷ 117 ∷ 109 ∷ 18 ∷ 5 ∷ 66 ∷ 121 ∷ 116 ∷ 101 ∷ 115 ∷ 32 ∷ 130 ∷ 128 ∷ 128 ∷ 128 ∷ 16 ∷ 80 ∷ 82 ∷ 80 ∷ 67 ∷ 0 ∷ 0 ∷ 0 ∷ 21 ∷ 0 ∷ 0 ∷ 0 ∷ 18 ∷ 10 ∷ 12 ∷ 10 ∷ 4 ∷ 69 ∷ 99 ∷ 104 ∷ 111 ∷ 18 ∷ 4 ∷ 69 ∷ 99 ∷ 104 ∷ 111 ∷ 32 ∷ 5 ∷ 40 ∷ 1 ∷ 104 ∷ 105 ∷ 1 ∷ 80 ∷ 82 ∷ 80 ∷ 67 ∷ 0 ∷ 0 ∷ 0 ∷ 14 ∷ 0 ∷ 0 ∷ 0 ∷ 12 ∷ 10 ∷ 8 ∷ 10 ∷ 2 ∷ 78 ∷ 111 ∷ 18 ∷ 2 ∷ 79 ∷ 112 ∷ 32 ∷ 9 ∷ 104 ∷ 105 ∷ []) ∷ ([]) ∷ [])
unfolding decode_pairs encode_with digits
row_s1_17 = (refl, refl)

row_s1_18 : Draws (codes "slots 2\nrequests 8\nopen a fail=1 serve\nclient\nsend a 61\ncall a Echo.Echo 6869\nclient\ncall a Sum.Bytes - att=01\ncall a Sum.Bytes - att=01 retry=2\nsend a 626364\nclient\nsend a 626364\njoin 1.2\n") (2 ∷ 1 ∷ 3 ∷ 32 ∷ 3 ∷ 3 ∷ 1 ∷ 1 ∷ 2 ∷ 2 ∷ 1 ∷ 2 ∷ 2 ∷ 32 ∷ 2 ∷ 32 ∷ 2 ∷ 1 ∷ 32 ∷ 3 ∷ 1 ∷ 1 ∷ 2 ∷ 1 ∷ 1 ∷ 1 ∷ 2 ∷ 3 ∷ 2 ∷ 2 ∷ 32 ∷ 1 ∷ 3 ∷ 1 ∷ 1 ∷ 1 ∷ 1 ∷ 32 ∷ 3 ∷ 2 ∷ 3 ∷ 3 ∷ 1 ∷ 2 ∷ 3 ∷ 3 ∷ 2 ∷ 32 ∷ 1 ∷ 32 ∷ 3 ∷ 3 ∷ 32 ∷ 2 ∷ 3 ∷ 32 ∷ 3 ∷ 2 ∷ 3 ∷ 1 ∷ 2 ∷ 1 ∷ 3 ∷ 2 ∷ 3 ∷ 2 ∷ 3 ∷ 1 ∷ 3 ∷ 2 ∷ 32 ∷ 2 ∷ 3 ∷ 1 ∷ 3 ∷ 3 ∷ 2 ∷ 3 ∷ 3 ∷ 32 ∷ 3 ∷ 2 ∷ 3 ∷ 1 ∷ 3 ∷ 1 ∷ 3 ∷ 32 ∷ 1 ∷ 3 ∷ 2 ∷ 1 ∷ 1 ∷ 1 ∷ 2 ∷ 2 ∷ 3 ∷ 1 ∷ 2 ∷ 3 ∷ 3 ∷ 1 ∷ 1 ∷ 32 ∷ 1 ∷ 2 ∷ 3 ∷ 3 ∷ 3 ∷ 2 ∷ 1 ∷ 3 ∷ 2 ∷ 2 ∷ 3 ∷ 2 ∷ 1 ∷ 3 ∷ 2 ∷ 2 ∷ 1 ∷ 1 ∷ 3 ∷ 1 ∷ 3 ∷ 1 ∷ 1 ∷ 2 ∷ 32 ∷ 3 ∷ 3 ∷ 32 ∷ 3 ∷ 2 ∷ 32 ∷ 2 ∷ 32 ∷ 32 ∷ 1 ∷ 3 ∷ 3 ∷ 2 ∷ 1 ∷ 1 ∷ 1 ∷ 1 ∷ 32 ∷ 2 ∷ 3 ∷ 3 ∷ 1 ∷ 1 ∷ 3 ∷ 1 ∷ 1 ∷ 2 ∷ 3 ∷ 1 ∷ 2 ∷ 2 ∷ []) (codes "S7" ∷ codes "S7" ∷ codes "S7" ∷ codes "S7" ∷ codes "A3" ∷ codes "A8" ∷ codes "A3" ∷ codes "A8" ∷ codes "I1" ∷ codes "K1" ∷ codes "C1" ∷ codes "I2" ∷ codes "T1" ∷ [] ∷ codes "A3" ∷ [] ∷ codes "S2" ∷ codes "M1" ∷ [] ∷ codes "C1" ∷ codes "C7" ∷ codes "C2" ∷ codes "T1" ∷ codes "S2" ∷ codes "L1" ∷ codes "M2" ∷ codes "A8" ∷ codes "C1" ∷ codes "C1" ∷ codes "C1" ∷ [] ∷ codes "A8" ∷ codes "M1" ∷ codes "W1" ∷ codes "A5" ∷ codes "S4" ∷ codes "A4" ∷ [] ∷ codes "C7" ∷ codes "C1" ∷ codes "C2" ∷ codes "C3" ∷ codes "A8" ∷ codes "M1" ∷ codes "A4" ∷ codes "T2" ∷ codes "C7" ∷ [] ∷ codes "S5" ∷ [] ∷ [] ∷ [] ∷ [] ∷ codes "C2" ∷ [] ∷ [] ∷ [] ∷ codes "C3" ∷ [] ∷ codes "P1" ∷ codes "A4" ∷ codes "C8" ∷ [] ∷ codes "S7" ∷ [] ∷ codes "I1" ∷ [] ∷ codes "L2" ∷ [] ∷ codes "I1" ∷ [] ∷ codes "K1" ∷ [] ∷ codes "C4" ∷ [] ∷ [] ∷ codes "I2" ∷ [] ∷ [] ∷ [] ∷ [] ∷ codes "T1" ∷ [] ∷ codes "L1" ∷ [] ∷ codes "C5" ∷ [] ∷ [] ∷ codes "C6" ∷ [] ∷ codes "A3" ∷ codes "C5" ∷ codes "C6" ∷ codes "M2" ∷ codes "A4" ∷ codes "I7" ∷ [] ∷ codes "A8" ∷ codes "I4" ∷ [] ∷ [] ∷ codes "S5" ∷ codes "P1" ∷ [] ∷ codes "C5" ∷ codes "K2" ∷ [] ∷ [] ∷ [] ∷ codes "K1" ∷ codes "C8" ∷ [] ∷ codes "I5" ∷ codes "I7" ∷ [] ∷ codes "I3" ∷ codes "M2" ∷ [] ∷ codes "K2" ∷ codes "K1" ∷ codes "A8" ∷ codes "S5" ∷ [] ∷ codes "P1" ∷ [] ∷ codes "C8" ∷ codes "I7" ∷ codes "I5" ∷ [] ∷ [] ∷ [] ∷ [] ∷ [] ∷ codes "S7" ∷ [] ∷ codes "A3" ∷ [] ∷ [] ∷ codes "I4" ∷ [] ∷ [] ∷ codes "A4" ∷ codes "K2" ∷ codes "I6" ∷ codes "I8" ∷ codes "L2" ∷ [] ∷ codes "I7" ∷ [] ∷ [] ∷ codes "C4" ∷ codes "A4" ∷ [] ∷ codes "A6" ∷ codes "S2" ∷ codes "I4" ∷ [] ∷ codes "L1" ∷ codes "K2" ∷ codes "K1" ∷ []) (Some (Opened 0 0 0) ∷ None ∷ Some (CallFailed 3 1009) ∷ Some (CallFailed 1 1009) ∷ Some (CallFailed 4294967297 1009) ∷ Some (Gone (record { 0 = 8589934592 })) ∷ None ∷ Some (NotBegun) ∷ [], (8, 9223372036854775809) ∷ (24, 9223372036854775811) ∷ (48, 9223372036854775810) ∷ [], ([]) ∷ [])
unfolding decode_pairs encode_with digits
row_s1_18 = (refl, refl)

row_s1_19 : Draws (codes "slots 2\nrequests 2\nopen a\nopen b serve\nclient\ncall a Sum.Bytes 61 retry=2\nclient\nsend b 626364\ncall a Sum.Bytes -\nclient\nsend a 626364\nclient\nsend b 61\n") (1 ∷ 3 ∷ 33 ∷ 4 ∷ 2 ∷ 3 ∷ 33 ∷ 3 ∷ 32 ∷ 33 ∷ 1 ∷ 4 ∷ 3 ∷ 1 ∷ 1 ∷ 32 ∷ 3 ∷ 33 ∷ 3 ∷ 1 ∷ 3 ∷ 3 ∷ 4 ∷ 3 ∷ 4 ∷ 2 ∷ 33 ∷ 4 ∷ 32 ∷ 32 ∷ 2 ∷ 1 ∷ 4 ∷ 32 ∷ 33 ∷ 1 ∷ 3 ∷ 4 ∷ 1 ∷ 33 ∷ 1 ∷ 3 ∷ 1 ∷ 2 ∷ 33 ∷ 1 ∷ 32 ∷ 4 ∷ 4 ∷ 32 ∷ 1 ∷ 2 ∷ 4 ∷ 1 ∷ 3 ∷ 2 ∷ 4 ∷ 3 ∷ 1 ∷ 33 ∷ 4 ∷ 3 ∷ 1 ∷ 1 ∷ 4 ∷ 1 ∷ 3 ∷ 1 ∷ 1 ∷ 3 ∷ 4 ∷ 3 ∷ 1 ∷ 2 ∷ 3 ∷ 2 ∷ 33 ∷ 4 ∷ 1 ∷ 1 ∷ 1 ∷ 4 ∷ 33 ∷ 3 ∷ 33 ∷ 2 ∷ 3 ∷ 3 ∷ 1 ∷ 2 ∷ 1 ∷ 2 ∷ 4 ∷ 4 ∷ 4 ∷ 1 ∷ 1 ∷ 1 ∷ 2 ∷ 1 ∷ 33 ∷ 4 ∷ 3 ∷ 3 ∷ 3 ∷ 2 ∷ 33 ∷ 4 ∷ 4 ∷ 3 ∷ 3 ∷ 1 ∷ 2 ∷ 2 ∷ 3 ∷ 2 ∷ 2 ∷ 33 ∷ 3 ∷ 3 ∷ 2 ∷ 3 ∷ 1 ∷ 3 ∷ 33 ∷ 4 ∷ 2 ∷ 4 ∷ 4 ∷ 3 ∷ 3 ∷ 3 ∷ 4 ∷ 33 ∷ 2 ∷ 2 ∷ 2 ∷ 32 ∷ 4 ∷ 3 ∷ 3 ∷ 4 ∷ 33 ∷ 3 ∷ 1 ∷ 32 ∷ 4 ∷ 4 ∷ 3 ∷ 2 ∷ 1 ∷ 32 ∷ 1 ∷ 1 ∷ 2 ∷ 1 ∷ 4 ∷ 1 ∷ 1 ∷ 3 ∷ []) (codes "S7" ∷ codes "S7" ∷ codes "S7" ∷ codes "S7" ∷ codes "S7" ∷ codes "A3" ∷ [] ∷ codes "A8" ∷ codes "S7" ∷ [] ∷ codes "I1" ∷ codes "A3" ∷ codes "C1" ∷ codes "K1" ∷ codes "I2" ∷ [] ∷ codes "M1" ∷ [] ∷ codes "C7" ∷ codes "T1" ∷ codes "C2" ∷ codes "S2" ∷ codes "A8" ∷ codes "L1" ∷ codes "C1" ∷ codes "A3" ∷ [] ∷ codes "C1" ∷ [] ∷ [] ∷ codes "A8" ∷ codes "A3" ∷ codes "M1" ∷ [] ∷ [] ∷ codes "S2" ∷ codes "M2" ∷ codes "C7" ∷ codes "T1" ∷ [] ∷ codes "A8" ∷ codes "A8" ∷ codes "C1" ∷ codes "C1" ∷ [] ∷ codes "C1" ∷ [] ∷ codes "C2" ∷ codes "S2" ∷ [] ∷ codes "I7" ∷ codes "C1" ∷ codes "L1" ∷ codes "I4" ∷ codes "W1" ∷ codes "A4" ∷ codes "M2" ∷ codes "P1" ∷ codes "K2" ∷ [] ∷ codes "A8" ∷ codes "C8" ∷ codes "K1" ∷ codes "I5" ∷ codes "W1" ∷ codes "A4" ∷ codes "L2" ∷ codes "I7" ∷ codes "I3" ∷ codes "C4" ∷ codes "P1" ∷ codes "A4" ∷ codes "K2" ∷ codes "S7" ∷ [] ∷ codes "I1" ∷ codes "R1" ∷ codes "C8" ∷ codes "K1" ∷ codes "I5" ∷ codes "S7" ∷ codes "L2" ∷ codes "A3" ∷ [] ∷ codes "A5" ∷ codes "I1" ∷ [] ∷ [] ∷ codes "A3" ∷ codes "K1" ∷ codes "S2" ∷ codes "I2" ∷ codes "C4" ∷ codes "A4" ∷ [] ∷ codes "T1" ∷ codes "A8" ∷ codes "C1" ∷ codes "T1" ∷ codes "M1" ∷ codes "S4" ∷ [] ∷ [] ∷ [] ∷ [] ∷ codes "A3" ∷ codes "A4" ∷ [] ∷ [] ∷ [] ∷ [] ∷ codes "C7" ∷ codes "S2" ∷ codes "T1" ∷ [] ∷ codes "A8" ∷ codes "C1" ∷ codes "A4" ∷ [] ∷ [] ∷ codes "C1" ∷ [] ∷ codes "C2" ∷ [] ∷ codes "A6" ∷ [] ∷ codes "M1" ∷ [] ∷ [] ∷ [] ∷ [] ∷ [] ∷ [] ∷ codes "S2" ∷ codes "C7" ∷ codes "C2" ∷ codes "C3" ∷ [] ∷ [] ∷ [] ∷ [] ∷ [] ∷ codes "L1" ∷ [] ∷ codes "S2" ∷ [] ∷ [] ∷ [] ∷ [] ∷ codes "A4" ∷ codes "L1" ∷ [] ∷ codes "M2" ∷ codes "A8" ∷ [] ∷ codes "W1" ∷ [] ∷ codes "A8" ∷ codes "W1" ∷ [] ∷ []) (Some (Opened 0 0 0) ∷ Some (Opened 1 0 1) ∷ Some (CallFailed 1 1014) ∷ Some (Full) ∷ Some (CallFailed 4294967297 1014) ∷ None ∷ None ∷ [], (17, 2) ∷ (32, 3) ∷ (40, 1) ∷ (48, 4294967297) ∷ [], (98 ∷ 99 ∷ 100 ∷ 80 ∷ 82 ∷ 80 ∷ 67 ∷ 0 ∷ 0 ∷ 0 ∷ 17 ∷ 0 ∷ 0 ∷ 0 ∷ 16 ∷ 10 ∷ 12 ∷ 10 ∷ 3 ∷ 83 ∷ 117 ∷ 109 ∷ 18 ∷ 5 ∷ 66 ∷ 121 ∷ 116 ∷ 101 ∷ 115 ∷ 32 ∷ 3 ∷ 97 ∷ 80 ∷ 82 ∷ 80 ∷ 67 ∷ 0 ∷ 0 ∷ 0 ∷ 20 ∷ 0 ∷ 0 ∷ 0 ∷ 20 ∷ 10 ∷ 12 ∷ 10 ∷ 3 ∷ 83 ∷ 117 ∷ 109 ∷ 18 ∷ 5 ∷ 66 ∷ 121 ∷ 116 ∷ 101 ∷ 115 ∷ 32 ∷ 130 ∷ 128 ∷ 128 ∷ 128 ∷ 16 ∷ []) ∷ (97 ∷ []) ∷ [])
unfolding decode_pairs encode_with digits
row_s1_19 = (refl, refl)

row_s1_20 : Draws (codes "slots 1\nrequests 1\nopen a again=2 serve\nopen b serve\nclient\ncall a,b Echo.Reverse - att=01\nhold b\n") (1 ∷ 32 ∷ 32 ∷ 1 ∷ 33 ∷ 33 ∷ 1 ∷ 1 ∷ 1 ∷ 33 ∷ 33 ∷ 32 ∷ 1 ∷ 33 ∷ 33 ∷ 32 ∷ 1 ∷ 1 ∷ 1 ∷ 32 ∷ 33 ∷ 1 ∷ 33 ∷ 32 ∷ 32 ∷ 1 ∷ 33 ∷ 1 ∷ 33 ∷ 32 ∷ 1 ∷ 1 ∷ 1 ∷ 32 ∷ 1 ∷ 1 ∷ 1 ∷ 33 ∷ 1 ∷ 32 ∷ 33 ∷ 1 ∷ 33 ∷ 1 ∷ 1 ∷ 32 ∷ 32 ∷ 1 ∷ 33 ∷ 1 ∷ 33 ∷ 32 ∷ 33 ∷ 1 ∷ 1 ∷ 1 ∷ 1 ∷ 33 ∷ 1 ∷ 1 ∷ 33 ∷ 33 ∷ 32 ∷ 33 ∷ 1 ∷ 33 ∷ 33 ∷ 1 ∷ 1 ∷ 1 ∷ 1 ∷ 32 ∷ 1 ∷ 1 ∷ 33 ∷ 1 ∷ 33 ∷ 1 ∷ 1 ∷ 32 ∷ 33 ∷ 1 ∷ 1 ∷ 1 ∷ 33 ∷ 33 ∷ 32 ∷ 1 ∷ 1 ∷ 33 ∷ 1 ∷ 33 ∷ 1 ∷ 1 ∷ 1 ∷ 1 ∷ 32 ∷ 32 ∷ 33 ∷ 1 ∷ 1 ∷ 32 ∷ 1 ∷ 1 ∷ 1 ∷ 32 ∷ 1 ∷ 1 ∷ 33 ∷ 1 ∷ 33 ∷ 1 ∷ 1 ∷ 1 ∷ 32 ∷ 32 ∷ 33 ∷ 1 ∷ 33 ∷ 33 ∷ 1 ∷ 33 ∷ 32 ∷ 1 ∷ 32 ∷ 1 ∷ 32 ∷ 32 ∷ 1 ∷ 1 ∷ 33 ∷ 33 ∷ 32 ∷ 1 ∷ 32 ∷ 1 ∷ 32 ∷ 32 ∷ 1 ∷ 1 ∷ 1 ∷ 1 ∷ 1 ∷ 33 ∷ 32 ∷ 1 ∷ 32 ∷ 32 ∷ 1 ∷ 1 ∷ 1 ∷ 1 ∷ 33 ∷ 32 ∷ 32 ∷ 33 ∷ 1 ∷ 33 ∷ 1 ∷ 32 ∷ []) (codes "S7" ∷ codes "S7" ∷ [] ∷ codes "I1" ∷ codes "S7" ∷ [] ∷ codes "K1" ∷ codes "I2" ∷ codes "T1" ∷ [] ∷ [] ∷ [] ∷ codes "A3" ∷ [] ∷ [] ∷ [] ∷ codes "S2" ∷ codes "T1" ∷ codes "A8" ∷ [] ∷ [] ∷ codes "C1" ∷ [] ∷ [] ∷ [] ∷ codes "M1" ∷ [] ∷ codes "C7" ∷ [] ∷ [] ∷ codes "C2" ∷ codes "S2" ∷ codes "L1" ∷ [] ∷ codes "M2" ∷ codes "A8" ∷ codes "W1" ∷ [] ∷ codes "A8" ∷ [] ∷ [] ∷ codes "W1" ∷ [] ∷ codes "W2" ∷ codes "A8" ∷ [] ∷ [] ∷ codes "W1" ∷ [] ∷ codes "P1" ∷ [] ∷ codes "R1" ∷ [] ∷ codes "C8" ∷ codes "L2" ∷ codes "C4" ∷ codes "A4" ∷ [] ∷ codes "S7" ∷ [] ∷ [] ∷ [] ∷ codes "I7" ∷ [] ∷ [] ∷ [] ∷ [] ∷ [] ∷ [] ∷ [] ∷ [] ∷ codes "I3" ∷ [] ∷ [] ∷ [] ∷ [] ∷ [] ∷ [] ∷ [] ∷ codes "K2" ∷ [] ∷ [] ∷ [] ∷ [] ∷ [] ∷ [] ∷ codes "I6" ∷ [] ∷ [] ∷ [] ∷ [] ∷ [] ∷ [] ∷ [] ∷ [] ∷ [] ∷ codes "I8" ∷ [] ∷ [] ∷ [] ∷ [] ∷ [] ∷ [] ∷ [] ∷ [] ∷ [] ∷ [] ∷ [] ∷ [] ∷ [] ∷ [] ∷ [] ∷ [] ∷ [] ∷ [] ∷ [] ∷ [] ∷ [] ∷ [] ∷ [] ∷ [] ∷ [] ∷ [] ∷ [] ∷ [] ∷ [] ∷ [] ∷ [] ∷ [] ∷ [] ∷ [] ∷ [] ∷ [] ∷ [] ∷ [] ∷ [] ∷ [] ∷ [] ∷ [] ∷ [] ∷ [] ∷ [] ∷ [] ∷ [] ∷ [] ∷ [] ∷ [] ∷ [] ∷ [] ∷ [] ∷ [] ∷ [] ∷ [] ∷ [] ∷ [] ∷ [] ∷ [] ∷ [] ∷ [] ∷ [] ∷ []) (Some (Opened 0 0 0) ∷ Some (SlotsFull) ∷ Some (Answered 1 [] []) ∷ Some (Unopened) ∷ [], (16, 1) ∷ [], (80 ∷ 82 ∷ 80 ∷ 67 ∷ 0 ∷ 0 ∷ 0 ∷ 22 ∷ 0 ∷ 0 ∷ 0 ∷ 21 ∷ 10 ∷ 15 ∷ 10 ∷ 4 ∷ 69 ∷ 99 ∷ 104 ∷ 111 ∷ 18 ∷ 7 ∷ 82 ∷ 101 ∷ 118 ∷ 101 ∷ 114 ∷ 115 ∷ 101 ∷ 32 ∷ 2 ∷ 40 ∷ 1 ∷ 1 ∷ []) ∷ ([]) ∷ [])
unfolding decode_pairs encode_with digits
row_s1_20 = (refl, refl)

row_s1_21 : Draws (codes "slots 3\nrequests 8\nopen a again=2 serve\nclient\nsend a 626364\ncall a Echo.Reverse 61 att=01\njoin 1.2\nclient\ncall a Echo.Echo - att=01 retry=1\nclient\ncall a Echo.Echo 61 att=01 retry=2\ncall a Echo.Reverse 6869 att=01 retry=1\nclient\ncall a Sum.Bytes 61 att=01\njoin 3.2\n") (1 ∷ 1 ∷ 2 ∷ 4 ∷ 1 ∷ 4 ∷ 3 ∷ 3 ∷ 3 ∷ 4 ∷ 1 ∷ 3 ∷ 4 ∷ 3 ∷ 2 ∷ 2 ∷ 2 ∷ 2 ∷ 2 ∷ 32 ∷ 4 ∷ 4 ∷ 2 ∷ 32 ∷ 32 ∷ 4 ∷ 2 ∷ 3 ∷ 2 ∷ 3 ∷ 3 ∷ 2 ∷ 2 ∷ 3 ∷ 4 ∷ 2 ∷ 4 ∷ 3 ∷ 4 ∷ 2 ∷ 2 ∷ 1 ∷ 2 ∷ 3 ∷ 2 ∷ 2 ∷ 3 ∷ 32 ∷ 2 ∷ 4 ∷ 3 ∷ 2 ∷ 32 ∷ 4 ∷ 2 ∷ 2 ∷ 4 ∷ 2 ∷ 1 ∷ 4 ∷ 1 ∷ 3 ∷ 3 ∷ 4 ∷ 1 ∷ 32 ∷ 1 ∷ 3 ∷ 1 ∷ 1 ∷ 2 ∷ 1 ∷ 2 ∷ 3 ∷ 32 ∷ 4 ∷ 4 ∷ 4 ∷ 3 ∷ 1 ∷ 3 ∷ 4 ∷ 2 ∷ 32 ∷ 1 ∷ 3 ∷ 2 ∷ 3 ∷ 3 ∷ 32 ∷ 4 ∷ 3 ∷ 4 ∷ 2 ∷ 2 ∷ 32 ∷ 32 ∷ 3 ∷ 1 ∷ 4 ∷ 4 ∷ 1 ∷ 2 ∷ 4 ∷ 4 ∷ 32 ∷ 32 ∷ 3 ∷ 32 ∷ 3 ∷ 3 ∷ 4 ∷ 1 ∷ 4 ∷ 32 ∷ 32 ∷ 1 ∷ 3 ∷ 32 ∷ 2 ∷ 1 ∷ 3 ∷ 32 ∷ 1 ∷ 4 ∷ 2 ∷ 2 ∷ 3 ∷ 2 ∷ 1 ∷ 3 ∷ 2 ∷ 1 ∷ 32 ∷ 1 ∷ 4 ∷ 1 ∷ 2 ∷ 1 ∷ 1 ∷ 3 ∷ 1 ∷ 3 ∷ 4 ∷ 1 ∷ 2 ∷ 1 ∷ 2 ∷ 3 ∷ 2 ∷ 4 ∷ 2 ∷ 1 ∷ 4 ∷ 4 ∷ 2 ∷ 4 ∷ 2 ∷ 4 ∷ 1 ∷ []) (codes "S7" ∷ codes "A3" ∷ codes "S7" ∷ codes "S7" ∷ codes "A8" ∷ codes "I1" ∷ codes "S7" ∷ codes "I1" ∷ codes "I1" ∷ codes "K1" ∷ codes "C1" ∷ codes "K1" ∷ codes "I2" ∷ codes "I2" ∷ codes "I1" ∷ codes "I1" ∷ codes "I1" ∷ codes "K1" ∷ codes "I2" ∷ codes "S7" ∷ codes "T1" ∷ codes "A3" ∷ codes "T1" ∷ [] ∷ [] ∷ codes "S2" ∷ codes "A3" ∷ codes "T1" ∷ codes "S2" ∷ codes "A3" ∷ codes "S2" ∷ codes "T1" ∷ codes "A8" ∷ codes "T1" ∷ codes "T1" ∷ codes "C1" ∷ codes "A8" ∷ codes "A8" ∷ codes "C1" ∷ codes "C1" ∷ codes "M1" ∷ codes "M1" ∷ codes "C7" ∷ codes "C1" ∷ codes "C2" ∷ codes "S2" ∷ codes "C1" ∷ [] ∷ codes "L1" ∷ codes "C1" ∷ codes "C1" ∷ codes "M2" ∷ [] ∷ codes "C1" ∷ codes "A8" ∷ codes "W1" ∷ codes "C1" ∷ codes "A8" ∷ codes "C7" ∷ codes "M1" ∷ codes "C2" ∷ codes "M1" ∷ codes "C7" ∷ codes "C7" ∷ codes "C3" ∷ [] ∷ codes "A4" ∷ codes "C2" ∷ codes "S7" ∷ codes "I1" ∷ codes "W1" ∷ codes "I1" ∷ codes "W2" ∷ codes "C3" ∷ [] ∷ codes "C2" ∷ codes "C3" ∷ codes "A4" ∷ codes "A4" ∷ codes "I1" ∷ codes "S7" ∷ codes "T2" ∷ codes "A8" ∷ [] ∷ codes "I1" ∷ codes "I1" ∷ codes "W1" ∷ codes "I1" ∷ codes "I1" ∷ codes "R1" ∷ [] ∷ codes "I1" ∷ [] ∷ codes "P1" ∷ codes "C8" ∷ codes "I7" ∷ codes "I3" ∷ codes "I1" ∷ codes "K1" ∷ [] ∷ [] ∷ codes "I2" ∷ codes "L2" ∷ [] ∷ [] ∷ codes "K2" ∷ codes "I6" ∷ codes "K1" ∷ codes "I8" ∷ codes "I2" ∷ codes "T1" ∷ [] ∷ codes "T1" ∷ [] ∷ [] ∷ [] ∷ codes "A3" ∷ codes "A3" ∷ [] ∷ codes "C4" ∷ codes "S2" ∷ codes "S2" ∷ [] ∷ codes "T1" ∷ [] ∷ codes "L1" ∷ codes "C5" ∷ codes "T1" ∷ codes "C6" ∷ codes "A8" ∷ codes "A8" ∷ codes "C5" ∷ codes "C1" ∷ [] ∷ codes "C1" ∷ [] ∷ codes "M1" ∷ codes "C6" ∷ codes "C7" ∷ codes "C2" ∷ codes "C1" ∷ codes "C3" ∷ codes "C1" ∷ [] ∷ codes "A4" ∷ codes "C5" ∷ codes "T2" ∷ codes "C6" ∷ codes "C1" ∷ codes "M2" ∷ [] ∷ codes "A8" ∷ [] ∷ [] ∷ [] ∷ codes "W1" ∷ [] ∷ codes "W2" ∷ [] ∷ [] ∷ []) (Some (Opened 0 0 0) ∷ None ∷ Some (CallFailed 12884901889 1014) ∷ Some (Joined) ∷ Some (Answered 8589934593 [] (1 ∷ [])) ∷ Some (CallFailed 4294967297 1014) ∷ Some (CallFailed 17179869185 1014) ∷ Some (CallFailed 1 1014) ∷ Some (NotBegun) ∷ [], (8, 2) ∷ (16, 9223372036854775813) ∷ (32, 1) ∷ (40, 9223372036854775811) ∷ (48, 9223372036854775814) ∷ (56, 9223372036854775812) ∷ [], (80 ∷ 82 ∷ 80 ∷ 67 ∷ 0 ∷ 0 ∷ 0 ∷ 23 ∷ 0 ∷ 0 ∷ 0 ∷ 22 ∷ 10 ∷ 12 ∷ 10 ∷ 4 ∷ 69 ∷ 99 ∷ 104 ∷ 111 ∷ 18 ∷ 4 ∷ 69 ∷ 99 ∷ 104 ∷ 111 ∷ 32 ∷ 130 ∷ 128 ∷ 128 ∷ 128 ∷ 32 ∷ 40 ∷ 1 ∷ 1 ∷ 98 ∷ 99 ∷ 100 ∷ []) ∷ [])
unfolding decode_pairs encode_with digits
row_s1_21 = (refl, refl)

row_s1_22 : Draws (codes "slots 2\nrequests 8\nopen a\nopen b\nclient\nsend b 626364\nclient\nsend a 626364\ncall b Sum.Bytes 61\nsend b 61\nclient\ncall b,a Sum.Bytes -\nfail a 1500\nclient\nsend b 626364\ncall a No.Op 6869 att=01 retry=1\nsend a 626364\n") (4 ∷ 4 ∷ 33 ∷ 4 ∷ 1 ∷ 33 ∷ 3 ∷ 1 ∷ 1 ∷ 4 ∷ 2 ∷ 2 ∷ 2 ∷ 4 ∷ 1 ∷ 32 ∷ 4 ∷ 32 ∷ 2 ∷ 4 ∷ 3 ∷ 3 ∷ 1 ∷ 4 ∷ 3 ∷ 1 ∷ 3 ∷ 3 ∷ 4 ∷ 3 ∷ 2 ∷ 2 ∷ 3 ∷ 4 ∷ 33 ∷ 3 ∷ 4 ∷ 1 ∷ 33 ∷ 3 ∷ 1 ∷ 1 ∷ 1 ∷ 3 ∷ 2 ∷ 3 ∷ 1 ∷ 1 ∷ 3 ∷ 32 ∷ 1 ∷ 3 ∷ 2 ∷ 3 ∷ 32 ∷ 4 ∷ 3 ∷ 2 ∷ 1 ∷ 2 ∷ 2 ∷ 1 ∷ 1 ∷ 1 ∷ 4 ∷ 1 ∷ 2 ∷ 1 ∷ 32 ∷ 4 ∷ 1 ∷ 1 ∷ 3 ∷ 1 ∷ 32 ∷ 2 ∷ 32 ∷ 2 ∷ 1 ∷ 3 ∷ 3 ∷ 3 ∷ 2 ∷ 2 ∷ 4 ∷ 3 ∷ 1 ∷ 1 ∷ 1 ∷ 1 ∷ 32 ∷ 33 ∷ 33 ∷ 1 ∷ 3 ∷ 32 ∷ 4 ∷ 1 ∷ 33 ∷ 32 ∷ 3 ∷ 2 ∷ 2 ∷ 33 ∷ 33 ∷ 1 ∷ 3 ∷ 2 ∷ 4 ∷ 4 ∷ 2 ∷ 33 ∷ 1 ∷ 3 ∷ 4 ∷ 32 ∷ 2 ∷ 4 ∷ 1 ∷ 3 ∷ 4 ∷ 4 ∷ 1 ∷ 3 ∷ 32 ∷ 2 ∷ 3 ∷ 4 ∷ 32 ∷ 32 ∷ 1 ∷ 2 ∷ 1 ∷ 3 ∷ 3 ∷ 2 ∷ 4 ∷ 2 ∷ 4 ∷ 2 ∷ 2 ∷ 33 ∷ 33 ∷ 2 ∷ 2 ∷ 4 ∷ 33 ∷ 2 ∷ 3 ∷ 3 ∷ 2 ∷ 2 ∷ 4 ∷ 1 ∷ 32 ∷ 33 ∷ 2 ∷ 4 ∷ 33 ∷ 4 ∷ []) (codes "S7" ∷ codes "A3" ∷ codes "S7" ∷ codes "A8" ∷ codes "S7" ∷ [] ∷ codes "S7" ∷ codes "A3" ∷ codes "A8" ∷ codes "C1" ∷ codes "S7" ∷ codes "A3" ∷ codes "A8" ∷ codes "M1" ∷ codes "C1" ∷ codes "S7" ∷ codes "C7" ∷ [] ∷ codes "C1" ∷ codes "C2" ∷ codes "I1" ∷ codes "K1" ∷ codes "C1" ∷ codes "S2" ∷ codes "I2" ∷ codes "M1" ∷ codes "T1" ∷ codes "A3" ∷ codes "L1" ∷ codes "S2" ∷ codes "C1" ∷ codes "C1" ∷ codes "T1" ∷ codes "M2" ∷ [] ∷ codes "A8" ∷ codes "A8" ∷ codes "C7" ∷ [] ∷ codes "C1" ∷ codes "C2" ∷ codes "C3" ∷ codes "A4" ∷ codes "C1" ∷ codes "M1" ∷ codes "C1" ∷ [] ∷ [] ∷ codes "C1" ∷ [] ∷ [] ∷ codes "M1" ∷ codes "C7" ∷ codes "C7" ∷ [] ∷ codes "W1" ∷ codes "C2" ∷ codes "C2" ∷ [] ∷ codes "S2" ∷ codes "L1" ∷ [] ∷ [] ∷ [] ∷ codes "P1" ∷ [] ∷ codes "M2" ∷ [] ∷ [] ∷ codes "C8" ∷ [] ∷ [] ∷ codes "C3" ∷ [] ∷ [] ∷ codes "A8" ∷ [] ∷ codes "W1" ∷ [] ∷ codes "A4" ∷ codes "S7" ∷ codes "A3" ∷ codes "P1" ∷ codes "C8" ∷ codes "L2" ∷ codes "A5" ∷ [] ∷ [] ∷ [] ∷ [] ∷ [] ∷ [] ∷ [] ∷ [] ∷ codes "S4" ∷ [] ∷ codes "C4" ∷ [] ∷ [] ∷ [] ∷ codes "A4" ∷ codes "L2" ∷ codes "C4" ∷ [] ∷ [] ∷ [] ∷ codes "A4" ∷ codes "A4" ∷ codes "L1" ∷ codes "C5" ∷ codes "A6" ∷ [] ∷ [] ∷ [] ∷ codes "C6" ∷ [] ∷ codes "S2" ∷ codes "C5" ∷ [] ∷ [] ∷ codes "C6" ∷ codes "M2" ∷ [] ∷ [] ∷ [] ∷ codes "L1" ∷ [] ∷ codes "A8" ∷ [] ∷ [] ∷ [] ∷ codes "W3" ∷ [] ∷ [] ∷ [] ∷ codes "L2" ∷ codes "W1" ∷ codes "A7" ∷ codes "P1" ∷ codes "S7" ∷ codes "I1" ∷ [] ∷ [] ∷ codes "I1" ∷ codes "K1" ∷ codes "C5" ∷ [] ∷ codes "I2" ∷ [] ∷ [] ∷ codes "T1" ∷ codes "A3" ∷ codes "C8" ∷ [] ∷ codes "R1" ∷ [] ∷ codes "S2" ∷ codes "M2" ∷ [] ∷ codes "A8" ∷ []) (Some (Opened 0 0 0) ∷ Some (Opened 1 0 1) ∷ None ∷ None ∷ Some (CallFailed 4294967297 1014) ∷ None ∷ Some (CallFailed 1 1014) ∷ Some (Failed) ∷ None ∷ Some (CallFailed 8589934593 1009) ∷ Some (Gone (record { 0 = 8589934592 })) ∷ [], (16, 4294967298) ∷ (24, 1) ∷ (32, 4294967300) ∷ (40, 4294967301) ∷ (48, 4294967299) ∷ (64, 4294967297) ∷ [], (98 ∷ 99 ∷ 100 ∷ []) ∷ (98 ∷ 99 ∷ 100 ∷ 98 ∷ 99 ∷ 100 ∷ 80 ∷ 82 ∷ 80 ∷ 67 ∷ 0 ∷ 0 ∷ 0 ∷ 16 ∷ 0 ∷ 0 ∷ 0 ∷ 16 ∷ 10 ∷ 12 ∷ 10 ∷ 3 ∷ 83 ∷ 117 ∷ 109 ∷ 18 ∷ 5 ∷ 66 ∷ 121 ∷ 116 ∷ 101 ∷ 115 ∷ 32 ∷ 2 ∷ 80 ∷ 82 ∷ 80 ∷ 67 ∷ 0 ∷ 0 ∷ 0 ∷ 21 ∷ 0 ∷ 0 ∷ 0 ∷ 20 ∷ 10 ∷ 12 ∷ 10 ∷ 3 ∷ 83 ∷ 117 ∷ 109 ∷ 18 ∷ 5 ∷ 66 ∷ 121 ∷ 116 ∷ 101 ∷ 115 ∷ 32 ∷ 130 ∷ 128 ∷ 128 ∷ 128 ∷ 16 ∷ 97 ∷ 97 ∷ []) ∷ [])
unfolding decode_pairs encode_with digits
row_s1_22 = (refl, refl)

row_s1_23 : Draws (codes "slots 3\nrequests 8\nopen a fail=3 serve\nopen b piece=1 fail=1 serve\nclient\ncall b No.Op 6869 att=01 retry=2\nclient\nexpire 1.1\ncall a,b Echo.Echo 6869 retry=1\ncall b Echo.Echo 6869 retry=2\nclient\ncall a,b No.Op -\nclient\nfail a 1500\n") (3 ∷ 32 ∷ 1 ∷ 1 ∷ 4 ∷ 3 ∷ 2 ∷ 1 ∷ 2 ∷ 4 ∷ 3 ∷ 3 ∷ 2 ∷ 2 ∷ 2 ∷ 3 ∷ 4 ∷ 2 ∷ 32 ∷ 2 ∷ 1 ∷ 1 ∷ 3 ∷ 3 ∷ 33 ∷ 4 ∷ 4 ∷ 2 ∷ 3 ∷ 4 ∷ 32 ∷ 1 ∷ 2 ∷ 33 ∷ 1 ∷ 1 ∷ 3 ∷ 4 ∷ 1 ∷ 1 ∷ 1 ∷ 3 ∷ 1 ∷ 33 ∷ 2 ∷ 1 ∷ 3 ∷ 1 ∷ 2 ∷ 4 ∷ 1 ∷ 33 ∷ 4 ∷ 4 ∷ 4 ∷ 2 ∷ 3 ∷ 1 ∷ 1 ∷ 4 ∷ 3 ∷ 3 ∷ 4 ∷ 33 ∷ 33 ∷ 4 ∷ 2 ∷ 1 ∷ 4 ∷ 33 ∷ 2 ∷ 3 ∷ 1 ∷ 2 ∷ 2 ∷ 1 ∷ 4 ∷ 3 ∷ 1 ∷ 32 ∷ 3 ∷ 1 ∷ 3 ∷ 1 ∷ 32 ∷ 2 ∷ 1 ∷ 32 ∷ 2 ∷ 4 ∷ 4 ∷ 3 ∷ 2 ∷ 1 ∷ 3 ∷ 4 ∷ 1 ∷ 1 ∷ 4 ∷ 4 ∷ 2 ∷ 3 ∷ 4 ∷ 4 ∷ 32 ∷ 4 ∷ 32 ∷ 32 ∷ 4 ∷ 3 ∷ 3 ∷ 4 ∷ 2 ∷ 4 ∷ 4 ∷ 1 ∷ 4 ∷ 2 ∷ 2 ∷ 2 ∷ 1 ∷ 4 ∷ 3 ∷ 2 ∷ 3 ∷ 4 ∷ 4 ∷ 4 ∷ 33 ∷ 33 ∷ 4 ∷ 2 ∷ 1 ∷ 4 ∷ 1 ∷ 3 ∷ 32 ∷ 2 ∷ 3 ∷ 4 ∷ 2 ∷ 2 ∷ 1 ∷ 4 ∷ 4 ∷ 3 ∷ 4 ∷ 1 ∷ 1 ∷ 2 ∷ 4 ∷ 1 ∷ 4 ∷ 33 ∷ 1 ∷ 1 ∷ 3 ∷ 2 ∷ 1 ∷ 2 ∷ []) (codes "S7" ∷ codes "S7" ∷ codes "S7" ∷ codes "I1" ∷ codes "S7" ∷ codes "I1" ∷ codes "T2" ∷ codes "K1" ∷ codes "S7" ∷ codes "A3" ∷ codes "I1" ∷ codes "K1" ∷ codes "I1" ∷ codes "I1" ∷ codes "I1" ∷ codes "I2" ∷ codes "A5" ∷ codes "K1" ∷ [] ∷ codes "I2" ∷ codes "I2" ∷ codes "T1" ∷ codes "T1" ∷ codes "A3" ∷ codes "S7" ∷ codes "S4" ∷ codes "A4" ∷ codes "T1" ∷ codes "A4" ∷ codes "A4" ∷ [] ∷ codes "A3" ∷ codes "A3" ∷ [] ∷ codes "S2" ∷ codes "T1" ∷ codes "I7" ∷ codes "A6" ∷ codes "A8" ∷ codes "C1" ∷ codes "M1" ∷ codes "I4" ∷ codes "C7" ∷ [] ∷ codes "A4" ∷ codes "C2" ∷ codes "K2" ∷ codes "S2" ∷ codes "A6" ∷ [] ∷ codes "L1" ∷ [] ∷ [] ∷ [] ∷ [] ∷ codes "S2" ∷ codes "I6" ∷ codes "M2" ∷ codes "A8" ∷ [] ∷ codes "I8" ∷ [] ∷ [] ∷ [] ∷ [] ∷ [] ∷ codes "L1" ∷ codes "W1" ∷ [] ∷ [] ∷ codes "W3" ∷ [] ∷ codes "A5" ∷ codes "L2" ∷ codes "A7" ∷ codes "S4" ∷ [] ∷ [] ∷ codes "A4" ∷ codes "R1" ∷ [] ∷ codes "A8" ∷ [] ∷ codes "S5" ∷ codes "T2" ∷ codes "I7" ∷ codes "P1" ∷ codes "T2" ∷ codes "I4" ∷ [] ∷ [] ∷ [] ∷ codes "K2" ∷ codes "C8" ∷ [] ∷ [] ∷ codes "I7" ∷ codes "I4" ∷ [] ∷ [] ∷ codes "K1" ∷ [] ∷ [] ∷ [] ∷ codes "T2" ∷ [] ∷ codes "T2" ∷ [] ∷ [] ∷ [] ∷ [] ∷ [] ∷ codes "I5" ∷ [] ∷ [] ∷ codes "K2" ∷ [] ∷ codes "I7" ∷ codes "I3" ∷ codes "K2" ∷ codes "K1" ∷ [] ∷ [] ∷ codes "K1" ∷ [] ∷ [] ∷ [] ∷ [] ∷ [] ∷ [] ∷ [] ∷ codes "I5" ∷ codes "I5" ∷ [] ∷ codes "L2" ∷ [] ∷ [] ∷ codes "S7" ∷ [] ∷ [] ∷ codes "A3" ∷ codes "A4" ∷ codes "C4" ∷ [] ∷ [] ∷ [] ∷ [] ∷ codes "A4" ∷ codes "A6" ∷ codes "I7" ∷ [] ∷ codes "S2" ∷ [] ∷ [] ∷ codes "L1" ∷ codes "W3" ∷ [] ∷ codes "I4" ∷ codes "L2" ∷ codes "K2" ∷ []) (Some (Opened 0 0 0) ∷ Some (Opened 1 0 1) ∷ Some (CallFailed 1 1009) ∷ Some (NotBegun) ∷ Some (CallFailed 8589934593 1009) ∷ Some (CallFailed 4294967299 1009) ∷ Some (CallFailed 4294967297 1009) ∷ Some (Failed) ∷ [], (16, 9223372041149743105) ∷ [], ([]) ∷ ([]) ∷ [])
unfolding decode_pairs encode_with digits
row_s1_23 = (refl, refl)

row_s1_24 : Draws (codes "slots 3\nrequests 2\nopen a serve\nopen b piece=1 again=2 fail=2 serve\nclient\nhold b\n") (32 ∷ 32 ∷ 32 ∷ 32 ∷ 32 ∷ 1 ∷ 1 ∷ 33 ∷ 32 ∷ 32 ∷ 1 ∷ 33 ∷ 32 ∷ 1 ∷ 33 ∷ 32 ∷ 33 ∷ 33 ∷ 1 ∷ 1 ∷ 1 ∷ 33 ∷ 32 ∷ 1 ∷ 32 ∷ 1 ∷ 1 ∷ 1 ∷ 33 ∷ 33 ∷ 32 ∷ 1 ∷ 1 ∷ 32 ∷ 1 ∷ 32 ∷ 1 ∷ 33 ∷ 33 ∷ 1 ∷ 1 ∷ 32 ∷ 1 ∷ 1 ∷ 33 ∷ 1 ∷ 33 ∷ 33 ∷ 1 ∷ 33 ∷ 1 ∷ 32 ∷ 33 ∷ 33 ∷ 1 ∷ 33 ∷ 33 ∷ 1 ∷ 32 ∷ 1 ∷ 32 ∷ 32 ∷ 32 ∷ 1 ∷ 1 ∷ 1 ∷ 1 ∷ 32 ∷ 1 ∷ 1 ∷ 32 ∷ 33 ∷ 1 ∷ 1 ∷ 33 ∷ 1 ∷ 33 ∷ 32 ∷ 1 ∷ 33 ∷ 33 ∷ 32 ∷ 32 ∷ 33 ∷ 1 ∷ 1 ∷ 1 ∷ 1 ∷ 1 ∷ 32 ∷ 33 ∷ 1 ∷ 1 ∷ 1 ∷ 33 ∷ 1 ∷ 1 ∷ 32 ∷ 32 ∷ 32 ∷ 32 ∷ 32 ∷ 32 ∷ 33 ∷ 33 ∷ 33 ∷ 33 ∷ 32 ∷ 32 ∷ 33 ∷ 1 ∷ 1 ∷ 33 ∷ 32 ∷ 32 ∷ 33 ∷ 33 ∷ 1 ∷ 32 ∷ 33 ∷ 32 ∷ 33 ∷ 1 ∷ 33 ∷ 1 ∷ 33 ∷ 1 ∷ 1 ∷ 32 ∷ 1 ∷ 32 ∷ 1 ∷ 33 ∷ 33 ∷ 32 ∷ 32 ∷ 1 ∷ 1 ∷ 33 ∷ 32 ∷ 1 ∷ 32 ∷ 33 ∷ 33 ∷ 33 ∷ 1 ∷ 33 ∷ 32 ∷ 33 ∷ 1 ∷ 32 ∷ 1 ∷ 1 ∷ 33 ∷ 1 ∷ 1 ∷ 32 ∷ 1 ∷ 33 ∷ 33 ∷ []) (codes "S7" ∷ [] ∷ [] ∷ [] ∷ [] ∷ codes "S7" ∷ codes "A3" ∷ codes "S7" ∷ [] ∷ [] ∷ codes "A4" ∷ [] ∷ [] ∷ [] ∷ [] ∷ [] ∷ [] ∷ [] ∷ [] ∷ [] ∷ [] ∷ [] ∷ [] ∷ [] ∷ [] ∷ [] ∷ [] ∷ [] ∷ [] ∷ [] ∷ [] ∷ [] ∷ [] ∷ [] ∷ [] ∷ [] ∷ [] ∷ [] ∷ [] ∷ [] ∷ [] ∷ [] ∷ [] ∷ [] ∷ [] ∷ [] ∷ [] ∷ [] ∷ [] ∷ [] ∷ [] ∷ [] ∷ [] ∷ [] ∷ [] ∷ [] ∷ [] ∷ [] ∷ [] ∷ [] ∷ [] ∷ [] ∷ [] ∷ [] ∷ [] ∷ [] ∷ [] ∷ [] ∷ [] ∷ [] ∷ [] ∷ [] ∷ [] ∷ [] ∷ [] ∷ [] ∷ [] ∷ [] ∷ [] ∷ [] ∷ [] ∷ [] ∷ [] ∷ [] ∷ [] ∷ [] ∷ [] ∷ [] ∷ [] ∷ [] ∷ [] ∷ [] ∷ [] ∷ [] ∷ [] ∷ [] ∷ [] ∷ [] ∷ [] ∷ [] ∷ [] ∷ [] ∷ [] ∷ [] ∷ [] ∷ [] ∷ [] ∷ [] ∷ [] ∷ [] ∷ [] ∷ [] ∷ [] ∷ [] ∷ [] ∷ [] ∷ [] ∷ [] ∷ [] ∷ [] ∷ [] ∷ [] ∷ [] ∷ [] ∷ [] ∷ [] ∷ [] ∷ [] ∷ [] ∷ [] ∷ [] ∷ [] ∷ [] ∷ [] ∷ [] ∷ [] ∷ [] ∷ [] ∷ [] ∷ [] ∷ [] ∷ [] ∷ [] ∷ [] ∷ [] ∷ [] ∷ [] ∷ [] ∷ [] ∷ [] ∷ [] ∷ [] ∷ [] ∷ [] ∷ [] ∷ [] ∷ [] ∷ [] ∷ [] ∷ [] ∷ []) (Some (Opened 0 0 0) ∷ Some (Opened 1 0 1) ∷ Some (Held) ∷ [], [], ([]) ∷ ([]) ∷ [])
unfolding decode_pairs encode_with digits
row_s1_24 = (refl, refl)

row_s1_25 : Draws (codes "slots 3\nrequests 2\nopen b serve\nclient\nopen b serve\nclient\nfail b 1500\nsend a 626364\n") (2 ∷ 33 ∷ 32 ∷ 1 ∷ 32 ∷ 33 ∷ 1 ∷ 1 ∷ 1 ∷ 1 ∷ 1 ∷ 2 ∷ 2 ∷ 1 ∷ 32 ∷ 1 ∷ 1 ∷ 2 ∷ 2 ∷ 1 ∷ 1 ∷ 2 ∷ 2 ∷ 1 ∷ 1 ∷ 2 ∷ 33 ∷ 2 ∷ 2 ∷ 1 ∷ 2 ∷ 2 ∷ 2 ∷ 2 ∷ 1 ∷ 1 ∷ 2 ∷ 33 ∷ 33 ∷ 33 ∷ 2 ∷ 32 ∷ 1 ∷ 32 ∷ 2 ∷ 1 ∷ 33 ∷ 33 ∷ 2 ∷ 2 ∷ 2 ∷ 1 ∷ 2 ∷ 2 ∷ 1 ∷ 2 ∷ 1 ∷ 1 ∷ 1 ∷ 1 ∷ 33 ∷ 2 ∷ 32 ∷ 33 ∷ 33 ∷ 2 ∷ 1 ∷ 2 ∷ 2 ∷ 1 ∷ 1 ∷ 2 ∷ 2 ∷ 2 ∷ 1 ∷ 2 ∷ 32 ∷ 1 ∷ 2 ∷ 32 ∷ 1 ∷ 33 ∷ 32 ∷ 33 ∷ 1 ∷ 33 ∷ 32 ∷ 2 ∷ 2 ∷ 1 ∷ 33 ∷ 2 ∷ 2 ∷ 1 ∷ 2 ∷ 33 ∷ 32 ∷ 2 ∷ 2 ∷ 1 ∷ 32 ∷ 33 ∷ 32 ∷ 1 ∷ 1 ∷ 1 ∷ 33 ∷ 1 ∷ 1 ∷ 33 ∷ 32 ∷ 32 ∷ 33 ∷ 1 ∷ 2 ∷ 33 ∷ 2 ∷ 1 ∷ 2 ∷ 33 ∷ 2 ∷ 1 ∷ 33 ∷ 2 ∷ 2 ∷ 2 ∷ 32 ∷ 32 ∷ 32 ∷ 2 ∷ 2 ∷ 32 ∷ 2 ∷ 2 ∷ 1 ∷ 1 ∷ 1 ∷ 33 ∷ 2 ∷ 1 ∷ 33 ∷ 1 ∷ 1 ∷ 2 ∷ 33 ∷ 33 ∷ 1 ∷ 1 ∷ 1 ∷ 1 ∷ 1 ∷ 2 ∷ 2 ∷ 2 ∷ 32 ∷ 1 ∷ 2 ∷ 32 ∷ 32 ∷ 2 ∷ []) (codes "S7" ∷ [] ∷ codes "S7" ∷ codes "A1" ∷ [] ∷ [] ∷ codes "A1" ∷ codes "S1" ∷ codes "S3" ∷ codes "S4" ∷ codes "A2" ∷ codes "A3" ∷ codes "A5" ∷ codes "S6" ∷ [] ∷ codes "S6" ∷ [] ∷ codes "S4" ∷ codes "A4" ∷ [] ∷ [] ∷ codes "A4" ∷ codes "A6" ∷ [] ∷ [] ∷ codes "S2" ∷ codes "S7" ∷ codes "L1" ∷ codes "W3" ∷ [] ∷ codes "L2" ∷ codes "A7" ∷ codes "S7" ∷ [] ∷ [] ∷ [] ∷ [] ∷ [] ∷ [] ∷ [] ∷ [] ∷ codes "R1" ∷ [] ∷ [] ∷ [] ∷ [] ∷ [] ∷ [] ∷ [] ∷ [] ∷ [] ∷ [] ∷ [] ∷ [] ∷ [] ∷ [] ∷ [] ∷ [] ∷ [] ∷ [] ∷ [] ∷ [] ∷ [] ∷ [] ∷ [] ∷ [] ∷ [] ∷ [] ∷ [] ∷ [] ∷ [] ∷ [] ∷ [] ∷ [] ∷ [] ∷ [] ∷ [] ∷ [] ∷ [] ∷ [] ∷ [] ∷ [] ∷ [] ∷ [] ∷ [] ∷ [] ∷ [] ∷ [] ∷ [] ∷ [] ∷ [] ∷ [] ∷ [] ∷ [] ∷ [] ∷ [] ∷ [] ∷ [] ∷ [] ∷ [] ∷ [] ∷ [] ∷ [] ∷ [] ∷ [] ∷ [] ∷ [] ∷ [] ∷ [] ∷ [] ∷ [] ∷ [] ∷ [] ∷ [] ∷ [] ∷ [] ∷ [] ∷ [] ∷ [] ∷ [] ∷ [] ∷ [] ∷ [] ∷ [] ∷ [] ∷ [] ∷ [] ∷ [] ∷ [] ∷ [] ∷ [] ∷ [] ∷ [] ∷ [] ∷ [] ∷ [] ∷ [] ∷ [] ∷ [] ∷ [] ∷ [] ∷ [] ∷ [] ∷ [] ∷ [] ∷ [] ∷ [] ∷ [] ∷ [] ∷ [] ∷ [] ∷ [] ∷ [] ∷ [] ∷ [] ∷ [] ∷ [] ∷ [] ∷ [] ∷ [] ∷ []) (Some (Opened 0 0 0) ∷ Some (Opened 1 0 1) ∷ Some (Failed) ∷ Some (Unopened) ∷ [], [], ([]) ∷ ([]) ∷ [])
unfolding decode_pairs encode_with digits
row_s1_25 = (refl, refl)

row_s1_26 : Draws (codes "slots 1\nrequests 8\nopen a serve\nclient\ncall a Echo.Reverse - retry=2\nfail a 1500\nfail a 1501\nclient\nhold a\nexpire 1.1\ndrop a\nclient\ncall a Echo.Echo - att=01\nfail a 1501\ncall a Sum.Bytes 6869 retry=2\n") (3 ∷ 3 ∷ 1 ∷ 3 ∷ 3 ∷ 1 ∷ 1 ∷ 3 ∷ 1 ∷ 3 ∷ 2 ∷ 1 ∷ 1 ∷ 1 ∷ 2 ∷ 1 ∷ 32 ∷ 1 ∷ 32 ∷ 1 ∷ 32 ∷ 3 ∷ 32 ∷ 2 ∷ 1 ∷ 1 ∷ 3 ∷ 1 ∷ 3 ∷ 2 ∷ 3 ∷ 1 ∷ 1 ∷ 2 ∷ 2 ∷ 1 ∷ 3 ∷ 1 ∷ 2 ∷ 3 ∷ 3 ∷ 32 ∷ 1 ∷ 3 ∷ 3 ∷ 2 ∷ 2 ∷ 1 ∷ 3 ∷ 3 ∷ 1 ∷ 2 ∷ 2 ∷ 1 ∷ 2 ∷ 3 ∷ 32 ∷ 2 ∷ 1 ∷ 3 ∷ 1 ∷ 2 ∷ 2 ∷ 2 ∷ 2 ∷ 3 ∷ 1 ∷ 3 ∷ 2 ∷ 1 ∷ 3 ∷ 32 ∷ 32 ∷ 2 ∷ 32 ∷ 32 ∷ 3 ∷ 3 ∷ 32 ∷ 2 ∷ 1 ∷ 1 ∷ 3 ∷ 1 ∷ 32 ∷ 32 ∷ 3 ∷ 2 ∷ 3 ∷ 2 ∷ 1 ∷ 32 ∷ 32 ∷ 2 ∷ 2 ∷ 2 ∷ 1 ∷ 2 ∷ 2 ∷ 3 ∷ 1 ∷ 2 ∷ 3 ∷ 3 ∷ 3 ∷ 32 ∷ 1 ∷ 2 ∷ 2 ∷ 3 ∷ 2 ∷ 3 ∷ 1 ∷ 1 ∷ 3 ∷ 1 ∷ 32 ∷ 1 ∷ 3 ∷ 2 ∷ 2 ∷ 32 ∷ 3 ∷ 1 ∷ 3 ∷ 1 ∷ 2 ∷ 2 ∷ 32 ∷ 2 ∷ 2 ∷ 1 ∷ 1 ∷ 2 ∷ 2 ∷ 1 ∷ 3 ∷ 1 ∷ 1 ∷ 2 ∷ 2 ∷ 3 ∷ 3 ∷ 3 ∷ 2 ∷ 2 ∷ 2 ∷ 2 ∷ 2 ∷ 1 ∷ 2 ∷ 1 ∷ 1 ∷ 1 ∷ 2 ∷ 2 ∷ 3 ∷ 1 ∷ 3 ∷ 3 ∷ []) (codes "S7" ∷ codes "I1" ∷ codes "S7" ∷ codes "K1" ∷ codes "I2" ∷ codes "I1" ∷ codes "I1" ∷ codes "T1" ∷ codes "K1" ∷ codes "A3" ∷ codes "S7" ∷ codes "I2" ∷ codes "T1" ∷ codes "A3" ∷ codes "A3" ∷ codes "S2" ∷ codes "S7" ∷ codes "T1" ∷ [] ∷ codes "A8" ∷ [] ∷ codes "S2" ∷ [] ∷ codes "T2" ∷ codes "C1" ∷ codes "M1" ∷ codes "T1" ∷ codes "C7" ∷ codes "A8" ∷ codes "I7" ∷ codes "C1" ∷ codes "C2" ∷ codes "S2" ∷ codes "I4" ∷ codes "K2" ∷ codes "L1" ∷ codes "C1" ∷ codes "M2" ∷ codes "I6" ∷ codes "M1" ∷ codes "C7" ∷ [] ∷ codes "A8" ∷ codes "C2" ∷ codes "C3" ∷ codes "I8" ∷ codes "A4" ∷ codes "W1" ∷ codes "A4" ∷ codes "S7" ∷ codes "P1" ∷ [] ∷ [] ∷ codes "C8" ∷ [] ∷ codes "A3" ∷ codes "R1" ∷ [] ∷ codes "L2" ∷ codes "A5" ∷ codes "C4" ∷ [] ∷ [] ∷ [] ∷ [] ∷ codes "S4" ∷ codes "L1" ∷ codes "A4" ∷ [] ∷ codes "C5" ∷ codes "A4" ∷ codes "I7" ∷ [] ∷ [] ∷ [] ∷ [] ∷ codes "S7" ∷ codes "I1" ∷ [] ∷ [] ∷ codes "C6" ∷ codes "M2" ∷ codes "I1" ∷ codes "A8" ∷ [] ∷ [] ∷ codes "K1" ∷ [] ∷ codes "I2" ∷ [] ∷ codes "S5" ∷ [] ∷ [] ∷ [] ∷ [] ∷ [] ∷ codes "P1" ∷ [] ∷ [] ∷ codes "T1" ∷ codes "C8" ∷ [] ∷ codes "A3" ∷ codes "A4" ∷ codes "I7" ∷ [] ∷ codes "I7" ∷ [] ∷ [] ∷ codes "I4" ∷ [] ∷ codes "K2" ∷ codes "I4" ∷ codes "K2" ∷ codes "K1" ∷ codes "I6" ∷ [] ∷ codes "I8" ∷ codes "I5" ∷ [] ∷ [] ∷ [] ∷ codes "I7" ∷ codes "L2" ∷ codes "I3" ∷ codes "C4" ∷ [] ∷ [] ∷ [] ∷ [] ∷ [] ∷ codes "A4" ∷ codes "A6" ∷ [] ∷ [] ∷ codes "S2" ∷ codes "K2" ∷ codes "L1" ∷ codes "W3" ∷ [] ∷ [] ∷ codes "K1" ∷ codes "I5" ∷ codes "S7" ∷ [] ∷ [] ∷ [] ∷ [] ∷ [] ∷ codes "L2" ∷ [] ∷ codes "A7" ∷ codes "S7" ∷ codes "A3" ∷ [] ∷ [] ∷ codes "A3" ∷ codes "A4" ∷ codes "A4" ∷ codes "I7" ∷ []) (Some (Opened 0 0 0) ∷ Some (CallFailed 4294967297 1008) ∷ Some (Gone (record { 0 = 8589934592 })) ∷ Some (Gone (record { 0 = 8589934592 })) ∷ Some (Held) ∷ Some (Expired) ∷ Some (Kept) ∷ Some (CallFailed 1 1501) ∷ Some (Failed) ∷ Some (CallFailed 4294967301 1009) ∷ [], (8, 1) ∷ (56, 9223372036854775810) ∷ [], (80 ∷ 82 ∷ 80 ∷ 67 ∷ 0 ∷ 0 ∷ 0 ∷ 23 ∷ 0 ∷ 0 ∷ 0 ∷ 23 ∷ 10 ∷ 15 ∷ 10 ∷ 4 ∷ 69 ∷ 99 ∷ 104 ∷ 111 ∷ 18 ∷ 7 ∷ 82 ∷ 101 ∷ 118 ∷ 101 ∷ 114 ∷ 115 ∷ 101 ∷ 32 ∷ 130 ∷ 128 ∷ 128 ∷ 128 ∷ 16 ∷ []) ∷ [])
unfolding decode_pairs encode_with digits
row_s1_26 = (refl, refl)

row_s1_27 : Draws (codes "slots 1\nrequests 4\nopen a serve end=0\nopen b piece=1 again=2 serve\nclient\nsend a 61\ncall a,b Echo.Reverse 6869 att=01 retry=1\nclient\njoin 1.2\ncall a Sum.Bytes - att=01\nclient\nexpire 1.2\nclient\ncall a,b No.Op 61 att=01\nsend a 626364\ncall a Sum.Bytes 6869 att=01 retry=1\n") (2 ∷ 2 ∷ 2 ∷ 4 ∷ 4 ∷ 3 ∷ 4 ∷ 33 ∷ 2 ∷ 3 ∷ 1 ∷ 2 ∷ 4 ∷ 33 ∷ 1 ∷ 3 ∷ 1 ∷ 2 ∷ 2 ∷ 3 ∷ 4 ∷ 2 ∷ 4 ∷ 2 ∷ 33 ∷ 1 ∷ 1 ∷ 4 ∷ 3 ∷ 4 ∷ 4 ∷ 32 ∷ 4 ∷ 1 ∷ 1 ∷ 33 ∷ 3 ∷ 1 ∷ 2 ∷ 2 ∷ 4 ∷ 2 ∷ 2 ∷ 4 ∷ 2 ∷ 3 ∷ 4 ∷ 3 ∷ 3 ∷ 32 ∷ 32 ∷ 2 ∷ 3 ∷ 1 ∷ 3 ∷ 3 ∷ 3 ∷ 2 ∷ 33 ∷ 32 ∷ 3 ∷ 33 ∷ 3 ∷ 2 ∷ 32 ∷ 4 ∷ 4 ∷ 4 ∷ 4 ∷ 3 ∷ 2 ∷ 1 ∷ 32 ∷ 1 ∷ 32 ∷ 32 ∷ 1 ∷ 1 ∷ 3 ∷ 32 ∷ 3 ∷ 3 ∷ 3 ∷ 33 ∷ 1 ∷ 2 ∷ 3 ∷ 2 ∷ 4 ∷ 3 ∷ 1 ∷ 4 ∷ 2 ∷ 33 ∷ 2 ∷ 4 ∷ 2 ∷ 3 ∷ 33 ∷ 2 ∷ 2 ∷ 1 ∷ 4 ∷ 3 ∷ 3 ∷ 4 ∷ 3 ∷ 33 ∷ 1 ∷ 4 ∷ 4 ∷ 33 ∷ 3 ∷ 33 ∷ 2 ∷ 3 ∷ 2 ∷ 4 ∷ 3 ∷ 1 ∷ 32 ∷ 2 ∷ 32 ∷ 2 ∷ 2 ∷ 3 ∷ 4 ∷ 2 ∷ 3 ∷ 2 ∷ 4 ∷ 4 ∷ 3 ∷ 2 ∷ 2 ∷ 2 ∷ 4 ∷ 32 ∷ 3 ∷ 3 ∷ 1 ∷ 2 ∷ 4 ∷ 4 ∷ 3 ∷ 1 ∷ 1 ∷ 32 ∷ 2 ∷ 3 ∷ 4 ∷ 2 ∷ 4 ∷ 2 ∷ 4 ∷ 32 ∷ 1 ∷ 3 ∷ 4 ∷ 2 ∷ []) (codes "T2" ∷ codes "S7" ∷ codes "I1" ∷ codes "S7" ∷ codes "I1" ∷ codes "T2" ∷ codes "I1" ∷ codes "S7" ∷ codes "K1" ∷ [] ∷ codes "S7" ∷ codes "I2" ∷ codes "K1" ∷ [] ∷ codes "A3" ∷ [] ∷ codes "A8" ∷ codes "T1" ∷ codes "A3" ∷ [] ∷ codes "I2" ∷ codes "S2" ∷ codes "T1" ∷ codes "T1" ∷ [] ∷ codes "C1" ∷ codes "M1" ∷ codes "A3" ∷ [] ∷ codes "S2" ∷ codes "T1" ∷ codes "S7" ∷ codes "A8" ∷ codes "C7" ∷ codes "C2" ∷ [] ∷ [] ∷ codes "S2" ∷ codes "A8" ∷ codes "C1" ∷ codes "C1" ∷ codes "C1" ∷ codes "M1" ∷ codes "C1" ∷ codes "C7" ∷ [] ∷ codes "C1" ∷ [] ∷ [] ∷ codes "R1" ∷ codes "A3" ∷ codes "C2" ∷ [] ∷ codes "L1" ∷ [] ∷ [] ∷ [] ∷ codes "C3" ∷ [] ∷ codes "A5" ∷ [] ∷ [] ∷ [] ∷ codes "A4" ∷ codes "S4" ∷ codes "M1" ∷ codes "C7" ∷ codes "C2" ∷ codes "C3" ∷ [] ∷ [] ∷ codes "M2" ∷ codes "A4" ∷ codes "A8" ∷ codes "A4" ∷ codes "T2" ∷ codes "A8" ∷ codes "S5" ∷ [] ∷ codes "T2" ∷ [] ∷ [] ∷ [] ∷ [] ∷ codes "P1" ∷ [] ∷ [] ∷ [] ∷ codes "A4" ∷ [] ∷ codes "C8" ∷ codes "S7" ∷ [] ∷ [] ∷ [] ∷ codes "A3" ∷ [] ∷ [] ∷ [] ∷ [] ∷ [] ∷ codes "L2" ∷ codes "A4" ∷ [] ∷ [] ∷ codes "S7" ∷ [] ∷ [] ∷ codes "C4" ∷ codes "I1" ∷ codes "I1" ∷ [] ∷ [] ∷ [] ∷ [] ∷ [] ∷ [] ∷ codes "I1" ∷ [] ∷ codes "L1" ∷ codes "I7" ∷ [] ∷ codes "I4" ∷ [] ∷ [] ∷ [] ∷ codes "K1" ∷ [] ∷ [] ∷ [] ∷ codes "I2" ∷ codes "T1" ∷ [] ∷ [] ∷ [] ∷ [] ∷ codes "A3" ∷ codes "K2" ∷ [] ∷ [] ∷ codes "C5" ∷ [] ∷ codes "A4" ∷ codes "I7" ∷ [] ∷ codes "C6" ∷ codes "C5" ∷ codes "I6" ∷ [] ∷ [] ∷ codes "I4" ∷ [] ∷ codes "K2" ∷ [] ∷ codes "K1" ∷ codes "I8" ∷ codes "C6" ∷ [] ∷ codes "I5" ∷ [] ∷ []) (Some (Opened 0 0 0) ∷ Some (SlotsFull) ∷ None ∷ Some (CallFailed 3 1009) ∷ Some (NotBegun) ∷ Some (CallFailed 1 1014) ∷ Some (NotBegun) ∷ Some (CallFailed 4294967297 1014) ∷ Some (Gone (record { 0 = 4294967297 })) ∷ Some (CallFailed 8589934593 1009) ∷ [], (16, 9223372036854775809) ∷ (40, 9223372036854775810) ∷ (56, 9223372036854775811) ∷ [], ([]) ∷ ([]) ∷ [])
unfolding decode_pairs encode_with digits
row_s1_27 = (refl, refl)

row_s1_28 : Draws (codes "slots 1\nrequests 4\nopen a serve end=0\nopen b serve\nclient\nsend b 61\ncall a,b Echo.Reverse 61 att=01\nclient\ncall b No.Op 61 att=01\nsend b 61\nclient\nhold a\ncall b No.Op 61\ncall a,b Echo.Reverse 6869 retry=2\nclient\ncall b Sum.Bytes - retry=2\nfail b 1500\n") (4 ∷ 32 ∷ 32 ∷ 3 ∷ 1 ∷ 3 ∷ 1 ∷ 3 ∷ 2 ∷ 3 ∷ 32 ∷ 2 ∷ 33 ∷ 4 ∷ 1 ∷ 2 ∷ 4 ∷ 3 ∷ 4 ∷ 2 ∷ 3 ∷ 1 ∷ 1 ∷ 2 ∷ 1 ∷ 4 ∷ 33 ∷ 33 ∷ 3 ∷ 1 ∷ 3 ∷ 2 ∷ 33 ∷ 2 ∷ 4 ∷ 2 ∷ 3 ∷ 32 ∷ 4 ∷ 32 ∷ 1 ∷ 32 ∷ 1 ∷ 3 ∷ 4 ∷ 4 ∷ 33 ∷ 2 ∷ 3 ∷ 32 ∷ 2 ∷ 4 ∷ 1 ∷ 32 ∷ 1 ∷ 4 ∷ 33 ∷ 4 ∷ 3 ∷ 3 ∷ 2 ∷ 3 ∷ 4 ∷ 1 ∷ 33 ∷ 4 ∷ 33 ∷ 2 ∷ 3 ∷ 33 ∷ 33 ∷ 2 ∷ 1 ∷ 4 ∷ 32 ∷ 4 ∷ 4 ∷ 33 ∷ 2 ∷ 3 ∷ 32 ∷ 2 ∷ 2 ∷ 1 ∷ 4 ∷ 2 ∷ 4 ∷ 4 ∷ 32 ∷ 3 ∷ 32 ∷ 2 ∷ 32 ∷ 3 ∷ 1 ∷ 1 ∷ 1 ∷ 33 ∷ 2 ∷ 2 ∷ 3 ∷ 2 ∷ 4 ∷ 1 ∷ 33 ∷ 33 ∷ 4 ∷ 3 ∷ 3 ∷ 3 ∷ 1 ∷ 3 ∷ 1 ∷ 1 ∷ 2 ∷ 4 ∷ 3 ∷ 4 ∷ 4 ∷ 3 ∷ 33 ∷ 4 ∷ 3 ∷ 33 ∷ 3 ∷ 1 ∷ 3 ∷ 33 ∷ 1 ∷ 4 ∷ 2 ∷ 1 ∷ 1 ∷ 3 ∷ 32 ∷ 3 ∷ 33 ∷ 2 ∷ 3 ∷ 33 ∷ 3 ∷ 3 ∷ 32 ∷ 3 ∷ 4 ∷ 2 ∷ 4 ∷ 3 ∷ 1 ∷ 1 ∷ 2 ∷ 4 ∷ 4 ∷ 33 ∷ 1 ∷ 4 ∷ 4 ∷ 1 ∷ 4 ∷ 3 ∷ []) (codes "S7" ∷ codes "S7" ∷ codes "R1" ∷ codes "S7" ∷ codes "S7" ∷ codes "A3" ∷ codes "S7" ∷ codes "S7" ∷ codes "S7" ∷ codes "S7" ∷ codes "A3" ∷ codes "S7" ∷ codes "S7" ∷ codes "S7" ∷ codes "I1" ∷ [] ∷ [] ∷ codes "I1" ∷ [] ∷ [] ∷ codes "I1" ∷ codes "K1" ∷ codes "I2" ∷ [] ∷ codes "T1" ∷ [] ∷ [] ∷ [] ∷ codes "K1" ∷ codes "A3" ∷ codes "I2" ∷ [] ∷ [] ∷ [] ∷ [] ∷ [] ∷ codes "T1" ∷ codes "A5" ∷ [] ∷ codes "S4" ∷ codes "S2" ∷ codes "A4" ∷ codes "T1" ∷ codes "A3" ∷ [] ∷ [] ∷ [] ∷ [] ∷ codes "A4" ∷ codes "A4" ∷ [] ∷ [] ∷ codes "A8" ∷ codes "T2" ∷ codes "I7" ∷ [] ∷ [] ∷ [] ∷ codes "I7" ∷ codes "I4" ∷ [] ∷ codes "K2" ∷ [] ∷ codes "I4" ∷ [] ∷ [] ∷ [] ∷ [] ∷ codes "K1" ∷ [] ∷ [] ∷ [] ∷ codes "K2" ∷ [] ∷ codes "I7" ∷ [] ∷ [] ∷ [] ∷ [] ∷ codes "I5" ∷ codes "I4" ∷ [] ∷ [] ∷ codes "I6" ∷ [] ∷ [] ∷ [] ∷ [] ∷ codes "T2" ∷ codes "I7" ∷ codes "T2" ∷ [] ∷ codes "T2" ∷ codes "I3" ∷ codes "I8" ∷ codes "A4" ∷ [] ∷ [] ∷ [] ∷ [] ∷ codes "K2" ∷ [] ∷ [] ∷ [] ∷ [] ∷ [] ∷ [] ∷ codes "K1" ∷ codes "I5" ∷ codes "S7" ∷ [] ∷ codes "I7" ∷ [] ∷ [] ∷ [] ∷ [] ∷ codes "I4" ∷ [] ∷ [] ∷ codes "K2" ∷ [] ∷ [] ∷ codes "K1" ∷ [] ∷ codes "I5" ∷ [] ∷ codes "I7" ∷ [] ∷ [] ∷ [] ∷ [] ∷ [] ∷ [] ∷ codes "I3" ∷ codes "T2" ∷ codes "K2" ∷ [] ∷ [] ∷ codes "K1" ∷ [] ∷ codes "I5" ∷ codes "S7" ∷ [] ∷ codes "A3" ∷ [] ∷ [] ∷ [] ∷ codes "A4" ∷ [] ∷ [] ∷ [] ∷ [] ∷ [] ∷ [] ∷ [] ∷ [] ∷ [] ∷ [] ∷ [] ∷ codes "I7" ∷ []) (Some (Opened 0 0 0) ∷ Some (SlotsFull) ∷ Some (Unopened) ∷ Some (CallFailed 1 1009) ∷ Some (Unopened) ∷ Some (Unopened) ∷ Some (Held) ∷ Some (Unopened) ∷ Some (CallFailed 4294967297 1009) ∷ Some (Unopened) ∷ Some (Unopened) ∷ [], [], ([]) ∷ ([]) ∷ [])
unfolding decode_pairs encode_with digits
row_s1_28 = (refl, refl)

row_s1_29 : Draws (codes "slots 3\nrequests 4\nopen a serve\nopen b serve\nclient\nsend b 61\nsend a 626364\nclient\nsend a 626364\nclient\nfail b 1501\nsend a 626364\nsend b 626364\nclient\nfail b 1500\nhold a\n") (4 ∷ 2 ∷ 1 ∷ 3 ∷ 4 ∷ 4 ∷ 1 ∷ 1 ∷ 3 ∷ 2 ∷ 3 ∷ 4 ∷ 3 ∷ 4 ∷ 1 ∷ 1 ∷ 4 ∷ 3 ∷ 3 ∷ 2 ∷ 32 ∷ 1 ∷ 33 ∷ 33 ∷ 4 ∷ 3 ∷ 1 ∷ 2 ∷ 2 ∷ 1 ∷ 4 ∷ 4 ∷ 3 ∷ 2 ∷ 1 ∷ 33 ∷ 4 ∷ 2 ∷ 3 ∷ 4 ∷ 2 ∷ 3 ∷ 32 ∷ 4 ∷ 3 ∷ 1 ∷ 1 ∷ 3 ∷ 2 ∷ 3 ∷ 2 ∷ 2 ∷ 4 ∷ 3 ∷ 4 ∷ 3 ∷ 33 ∷ 32 ∷ 32 ∷ 2 ∷ 4 ∷ 4 ∷ 2 ∷ 3 ∷ 3 ∷ 2 ∷ 3 ∷ 32 ∷ 33 ∷ 4 ∷ 4 ∷ 4 ∷ 32 ∷ 2 ∷ 3 ∷ 1 ∷ 2 ∷ 1 ∷ 33 ∷ 4 ∷ 3 ∷ 4 ∷ 3 ∷ 4 ∷ 4 ∷ 33 ∷ 1 ∷ 2 ∷ 4 ∷ 4 ∷ 1 ∷ 3 ∷ 32 ∷ 4 ∷ 32 ∷ 32 ∷ 3 ∷ 1 ∷ 3 ∷ 4 ∷ 1 ∷ 1 ∷ 3 ∷ 2 ∷ 3 ∷ 1 ∷ 3 ∷ 1 ∷ 32 ∷ 3 ∷ 1 ∷ 3 ∷ 3 ∷ 1 ∷ 32 ∷ 4 ∷ 1 ∷ 4 ∷ 33 ∷ 4 ∷ 32 ∷ 4 ∷ 1 ∷ 4 ∷ 33 ∷ 3 ∷ 2 ∷ 2 ∷ 3 ∷ 1 ∷ 3 ∷ 2 ∷ 3 ∷ 4 ∷ 3 ∷ 2 ∷ 1 ∷ 3 ∷ 1 ∷ 4 ∷ 4 ∷ 2 ∷ 2 ∷ 2 ∷ 33 ∷ 32 ∷ 32 ∷ 4 ∷ 32 ∷ 3 ∷ 4 ∷ 3 ∷ 2 ∷ 4 ∷ 1 ∷ 1 ∷ 32 ∷ 4 ∷ 2 ∷ 4 ∷ []) (codes "S7" ∷ codes "S7" ∷ codes "S7" ∷ codes "S7" ∷ codes "A3" ∷ codes "A5" ∷ codes "A3" ∷ codes "A4" ∷ codes "A3" ∷ codes "A3" ∷ codes "A4" ∷ codes "S4" ∷ codes "S7" ∷ codes "A4" ∷ codes "S7" ∷ codes "A3" ∷ codes "A4" ∷ codes "A3" ∷ codes "A8" ∷ codes "A8" ∷ codes "S7" ∷ codes "A8" ∷ codes "S7" ∷ [] ∷ codes "A6" ∷ codes "C1" ∷ codes "C1" ∷ codes "C1" ∷ codes "C1" ∷ codes "C1" ∷ codes "S2" ∷ codes "L1" ∷ codes "M1" ∷ codes "M1" ∷ codes "C1" ∷ [] ∷ codes "W3" ∷ codes "C7" ∷ codes "C7" ∷ codes "L2" ∷ codes "C2" ∷ codes "C2" ∷ [] ∷ codes "A7" ∷ codes "C3" ∷ codes "M1" ∷ codes "C7" ∷ codes "A4" ∷ codes "S2" ∷ codes "S7" ∷ codes "L1" ∷ codes "M2" ∷ codes "S7" ∷ codes "A3" ∷ codes "A3" ∷ codes "A4" ∷ codes "R1" ∷ [] ∷ [] ∷ codes "A8" ∷ codes "A4" ∷ [] ∷ codes "W1" ∷ [] ∷ [] ∷ codes "P1" ∷ [] ∷ codes "R1" ∷ [] ∷ [] ∷ [] ∷ [] ∷ codes "A3" ∷ codes "C8" ∷ [] ∷ codes "C2" ∷ codes "L2" ∷ codes "C3" ∷ [] ∷ [] ∷ [] ∷ [] ∷ [] ∷ [] ∷ [] ∷ [] ∷ codes "A4" ∷ codes "C4" ∷ [] ∷ [] ∷ [] ∷ [] ∷ codes "A5" ∷ [] ∷ codes "S4" ∷ codes "A4" ∷ [] ∷ [] ∷ [] ∷ [] ∷ [] ∷ [] ∷ [] ∷ codes "L1" ∷ [] ∷ [] ∷ [] ∷ [] ∷ codes "A4" ∷ [] ∷ [] ∷ [] ∷ [] ∷ [] ∷ [] ∷ [] ∷ [] ∷ [] ∷ [] ∷ [] ∷ [] ∷ [] ∷ [] ∷ [] ∷ [] ∷ [] ∷ codes "C5" ∷ codes "C6" ∷ [] ∷ [] ∷ [] ∷ codes "C5" ∷ [] ∷ [] ∷ [] ∷ codes "C6" ∷ [] ∷ [] ∷ [] ∷ [] ∷ [] ∷ codes "M2" ∷ codes "A8" ∷ codes "S5" ∷ [] ∷ [] ∷ [] ∷ [] ∷ [] ∷ [] ∷ [] ∷ [] ∷ codes "P1" ∷ [] ∷ [] ∷ [] ∷ [] ∷ [] ∷ codes "C5" ∷ [] ∷ []) (Some (Opened 0 0 0) ∷ Some (Opened 1 0 1) ∷ Some (Gone (record { 0 = 4294967298 })) ∷ None ∷ None ∷ Some (Gone (record { 0 = 4294967298 })) ∷ None ∷ Some (Gone (record { 0 = 8589934592 })) ∷ Some (Failed) ∷ Some (Held) ∷ [], (24, 9223372036854775811) ∷ (32, 1) ∷ (48, 9223372036854775810) ∷ [], (98 ∷ 99 ∷ 100 ∷ []) ∷ ([]) ∷ [])
unfolding decode_pairs encode_with digits
row_s1_29 = (refl, refl)

row_s1_30 : Draws (codes "slots 1\nrequests 8\nopen a again=2 serve\nclient\nsend a 626364\nfail b 1501\ncall b,a Echo.Reverse 61 att=01 retry=1\nclient\nfail a 1500\nclient\nopen b serve\nclient\ncall b Echo.Echo 61 retry=1\n") (1 ∷ 4 ∷ 1 ∷ 1 ∷ 2 ∷ 4 ∷ 3 ∷ 1 ∷ 2 ∷ 1 ∷ 33 ∷ 32 ∷ 2 ∷ 1 ∷ 1 ∷ 4 ∷ 1 ∷ 4 ∷ 32 ∷ 32 ∷ 4 ∷ 1 ∷ 2 ∷ 4 ∷ 2 ∷ 2 ∷ 3 ∷ 2 ∷ 1 ∷ 1 ∷ 3 ∷ 32 ∷ 1 ∷ 2 ∷ 2 ∷ 3 ∷ 3 ∷ 1 ∷ 4 ∷ 2 ∷ 3 ∷ 33 ∷ 4 ∷ 4 ∷ 3 ∷ 33 ∷ 3 ∷ 32 ∷ 3 ∷ 2 ∷ 1 ∷ 2 ∷ 33 ∷ 4 ∷ 3 ∷ 33 ∷ 3 ∷ 4 ∷ 3 ∷ 2 ∷ 1 ∷ 32 ∷ 32 ∷ 4 ∷ 33 ∷ 33 ∷ 32 ∷ 3 ∷ 4 ∷ 1 ∷ 32 ∷ 1 ∷ 3 ∷ 33 ∷ 4 ∷ 1 ∷ 33 ∷ 2 ∷ 32 ∷ 2 ∷ 32 ∷ 2 ∷ 33 ∷ 1 ∷ 3 ∷ 3 ∷ 4 ∷ 4 ∷ 2 ∷ 1 ∷ 4 ∷ 2 ∷ 33 ∷ 1 ∷ 1 ∷ 32 ∷ 1 ∷ 1 ∷ 4 ∷ 4 ∷ 3 ∷ 2 ∷ 33 ∷ 32 ∷ 32 ∷ 4 ∷ 1 ∷ 33 ∷ 33 ∷ 32 ∷ 2 ∷ 1 ∷ 2 ∷ 32 ∷ 33 ∷ 4 ∷ 33 ∷ 3 ∷ 3 ∷ 3 ∷ 33 ∷ 2 ∷ 4 ∷ 33 ∷ 4 ∷ 3 ∷ 1 ∷ 4 ∷ 1 ∷ 1 ∷ 2 ∷ 3 ∷ 2 ∷ 3 ∷ 4 ∷ 3 ∷ 1 ∷ 3 ∷ 1 ∷ 4 ∷ 1 ∷ 3 ∷ 2 ∷ 2 ∷ 2 ∷ 32 ∷ 33 ∷ 3 ∷ 3 ∷ 32 ∷ 2 ∷ 2 ∷ 4 ∷ 1 ∷ 4 ∷ 4 ∷ 3 ∷ 32 ∷ 2 ∷ 3 ∷ []) (codes "S7" ∷ codes "S7" ∷ codes "A3" ∷ codes "A8" ∷ codes "S7" ∷ [] ∷ codes "A1" ∷ codes "C1" ∷ codes "A3" ∷ codes "M1" ∷ [] ∷ codes "S7" ∷ codes "A5" ∷ codes "C7" ∷ codes "C2" ∷ [] ∷ codes "S2" ∷ [] ∷ [] ∷ [] ∷ [] ∷ codes "L1" ∷ codes "S4" ∷ [] ∷ codes "A4" ∷ codes "A4" ∷ codes "L1" ∷ [] ∷ codes "M2" ∷ codes "A8" ∷ codes "W3" ∷ [] ∷ codes "A8" ∷ [] ∷ [] ∷ codes "L2" ∷ codes "S6" ∷ codes "S5" ∷ [] ∷ [] ∷ [] ∷ codes "S7" ∷ [] ∷ [] ∷ [] ∷ [] ∷ [] ∷ [] ∷ [] ∷ [] ∷ codes "P1" ∷ [] ∷ [] ∷ [] ∷ [] ∷ [] ∷ [] ∷ [] ∷ [] ∷ [] ∷ codes "C8" ∷ [] ∷ [] ∷ [] ∷ [] ∷ [] ∷ [] ∷ [] ∷ [] ∷ codes "L2" ∷ [] ∷ codes "C4" ∷ [] ∷ [] ∷ [] ∷ codes "A4" ∷ [] ∷ [] ∷ [] ∷ [] ∷ [] ∷ [] ∷ [] ∷ codes "A6" ∷ [] ∷ [] ∷ [] ∷ [] ∷ [] ∷ codes "S2" ∷ [] ∷ [] ∷ [] ∷ codes "L1" ∷ codes "W3" ∷ codes "R1" ∷ codes "L2" ∷ codes "A7" ∷ [] ∷ [] ∷ [] ∷ [] ∷ [] ∷ codes "T2" ∷ codes "T2" ∷ [] ∷ codes "S7" ∷ [] ∷ [] ∷ [] ∷ [] ∷ codes "S7" ∷ [] ∷ [] ∷ [] ∷ [] ∷ [] ∷ [] ∷ [] ∷ [] ∷ [] ∷ [] ∷ [] ∷ [] ∷ [] ∷ [] ∷ [] ∷ [] ∷ [] ∷ [] ∷ [] ∷ [] ∷ [] ∷ [] ∷ [] ∷ [] ∷ [] ∷ [] ∷ [] ∷ [] ∷ [] ∷ [] ∷ [] ∷ [] ∷ [] ∷ [] ∷ [] ∷ [] ∷ [] ∷ [] ∷ [] ∷ [] ∷ [] ∷ [] ∷ [] ∷ [] ∷ [] ∷ [] ∷ [] ∷ [] ∷ []) (Some (Opened 0 0 0) ∷ None ∷ Some (Unopened) ∷ Some (Unopened) ∷ Some (Failed) ∷ Some (SlotsFull) ∷ Some (Unopened) ∷ [], (8, 9223372036854775809) ∷ [], ([]) ∷ ([]) ∷ [])
unfolding decode_pairs encode_with digits
row_s1_30 = (refl, refl)

row_s1_31 : Draws (codes "slots 3\nrequests 8\nopen a serve\nclient\ncall a Sum.Bytes 61 retry=1\nopen a again=2 serve\nsend a 61\nclient\njoin 1.1\ncall a Echo.Echo 61\ncall a No.Op 61 att=01 retry=1\nclient\ncall a Echo.Reverse -\nclient\ncall a Echo.Reverse 61 retry=2\nhold a\nsend a 626364\n") (4 ∷ 33 ∷ 33 ∷ 2 ∷ 33 ∷ 2 ∷ 2 ∷ 1 ∷ 4 ∷ 1 ∷ 4 ∷ 2 ∷ 4 ∷ 3 ∷ 3 ∷ 3 ∷ 3 ∷ 33 ∷ 4 ∷ 32 ∷ 4 ∷ 4 ∷ 33 ∷ 3 ∷ 2 ∷ 3 ∷ 4 ∷ 2 ∷ 1 ∷ 33 ∷ 4 ∷ 4 ∷ 1 ∷ 4 ∷ 33 ∷ 1 ∷ 3 ∷ 32 ∷ 33 ∷ 4 ∷ 2 ∷ 2 ∷ 2 ∷ 1 ∷ 32 ∷ 1 ∷ 3 ∷ 32 ∷ 1 ∷ 2 ∷ 2 ∷ 3 ∷ 32 ∷ 3 ∷ 3 ∷ 1 ∷ 33 ∷ 32 ∷ 1 ∷ 1 ∷ 2 ∷ 32 ∷ 2 ∷ 4 ∷ 1 ∷ 32 ∷ 32 ∷ 2 ∷ 4 ∷ 4 ∷ 33 ∷ 1 ∷ 1 ∷ 2 ∷ 4 ∷ 2 ∷ 2 ∷ 2 ∷ 3 ∷ 3 ∷ 33 ∷ 1 ∷ 33 ∷ 3 ∷ 4 ∷ 33 ∷ 4 ∷ 3 ∷ 4 ∷ 2 ∷ 2 ∷ 32 ∷ 4 ∷ 33 ∷ 2 ∷ 33 ∷ 32 ∷ 3 ∷ 32 ∷ 1 ∷ 2 ∷ 1 ∷ 2 ∷ 33 ∷ 2 ∷ 33 ∷ 2 ∷ 32 ∷ 4 ∷ 33 ∷ 33 ∷ 1 ∷ 4 ∷ 1 ∷ 32 ∷ 4 ∷ 32 ∷ 4 ∷ 33 ∷ 3 ∷ 1 ∷ 33 ∷ 1 ∷ 2 ∷ 1 ∷ 1 ∷ 33 ∷ 3 ∷ 3 ∷ 4 ∷ 33 ∷ 2 ∷ 1 ∷ 2 ∷ 33 ∷ 1 ∷ 3 ∷ 4 ∷ 4 ∷ 3 ∷ 32 ∷ 33 ∷ 2 ∷ 3 ∷ 3 ∷ 1 ∷ 1 ∷ 1 ∷ 4 ∷ 2 ∷ 2 ∷ 1 ∷ 3 ∷ 2 ∷ 3 ∷ 4 ∷ 4 ∷ 2 ∷ 4 ∷ 3 ∷ []) (codes "S7" ∷ [] ∷ [] ∷ codes "T2" ∷ [] ∷ codes "S7" ∷ codes "I1" ∷ codes "S7" ∷ codes "I1" ∷ codes "I1" ∷ codes "I1" ∷ codes "K1" ∷ codes "K1" ∷ codes "S7" ∷ codes "I1" ∷ codes "I1" ∷ codes "I1" ∷ [] ∷ codes "I2" ∷ codes "S7" ∷ codes "T1" ∷ codes "A3" ∷ [] ∷ codes "K1" ∷ codes "I2" ∷ codes "I2" ∷ codes "S2" ∷ codes "T1" ∷ codes "I1" ∷ [] ∷ codes "T1" ∷ codes "A8" ∷ codes "I1" ∷ codes "C1" ∷ [] ∷ codes "I1" ∷ codes "T1" ∷ [] ∷ [] ∷ codes "M1" ∷ codes "A3" ∷ codes "S2" ∷ codes "T1" ∷ codes "K1" ∷ [] ∷ codes "I2" ∷ codes "A3" ∷ [] ∷ codes "T1" ∷ codes "A8" ∷ codes "C1" ∷ codes "S2" ∷ [] ∷ codes "T1" ∷ codes "A8" ∷ codes "A3" ∷ [] ∷ [] ∷ codes "S2" ∷ codes "T1" ∷ codes "C1" ∷ [] ∷ codes "M1" ∷ codes "C7" ∷ codes "A8" ∷ [] ∷ [] ∷ codes "C7" ∷ codes "C2" ∷ codes "S2" ∷ [] ∷ codes "C1" ∷ codes "C1" ∷ codes "C2" ∷ codes "L1" ∷ codes "C3" ∷ codes "A4" ∷ codes "S7" ∷ codes "C1" ∷ codes "C1" ∷ [] ∷ codes "C1" ∷ [] ∷ codes "C1" ∷ codes "M2" ∷ [] ∷ codes "A8" ∷ codes "C1" ∷ codes "W1" ∷ codes "I1" ∷ codes "I1" ∷ [] ∷ codes "A8" ∷ [] ∷ codes "I1" ∷ [] ∷ [] ∷ codes "M1" ∷ [] ∷ codes "M1" ∷ codes "I1" ∷ codes "C7" ∷ codes "I1" ∷ [] ∷ codes "K1" ∷ [] ∷ codes "I2" ∷ [] ∷ codes "W1" ∷ [] ∷ [] ∷ codes "C2" ∷ codes "P1" ∷ codes "C3" ∷ codes "R1" ∷ codes "C8" ∷ codes "I7" ∷ codes "L2" ∷ [] ∷ codes "C7" ∷ codes "A4" ∷ [] ∷ codes "A1" ∷ codes "T1" ∷ codes "A1" ∷ codes "S1" ∷ [] ∷ codes "C2" ∷ codes "C3" ∷ codes "C4" ∷ [] ∷ codes "A3" ∷ codes "S3" ∷ codes "S2" ∷ [] ∷ codes "S4" ∷ codes "A4" ∷ codes "L1" ∷ codes "C5" ∷ [] ∷ codes "I3" ∷ [] ∷ codes "T1" ∷ [] ∷ [] ∷ codes "A2" ∷ codes "S6" ∷ codes "S6" ∷ codes "C6" ∷ codes "A8" ∷ codes "C1" ∷ codes "S7" ∷ [] ∷ codes "M1" ∷ [] ∷ codes "C5" ∷ codes "C6" ∷ codes "C7" ∷ codes "C5" ∷ [] ∷ []) (Some (Opened 0 0 0) ∷ Some (Answered 12884901889 (0 ∷ 0 ∷ 0 ∷ 0 ∷ 0 ∷ 0 ∷ 0 ∷ 97 ∷ []) []) ∷ Some (Opened 1 0 1) ∷ None ∷ Some (NotBegun) ∷ Some (Answered 1 (97 ∷ []) []) ∷ Some (Peer 17179869185 (pos 1001)) ∷ Some (Answered 8589934593 [] []) ∷ Some (Answered 4294967297 (97 ∷ []) []) ∷ Some (Gone (record { 0 = 8589934592 })) ∷ Some (Gone (record { 0 = 8589934592 })) ∷ [], (8, 3) ∷ (24, 4294967297) ∷ (40, 2) ∷ (48, 5) ∷ (56, 4) ∷ (64, 1) ∷ [], (80 ∷ 82 ∷ 80 ∷ 67 ∷ 0 ∷ 0 ∷ 0 ∷ 24 ∷ 0 ∷ 0 ∷ 0 ∷ 23 ∷ 10 ∷ 15 ∷ 10 ∷ 4 ∷ 69 ∷ 99 ∷ 104 ∷ 111 ∷ 18 ∷ 7 ∷ 82 ∷ 101 ∷ 118 ∷ 101 ∷ 114 ∷ 115 ∷ 101 ∷ 32 ∷ 130 ∷ 128 ∷ 128 ∷ 128 ∷ 16 ∷ 97 ∷ 80 ∷ 82 ∷ 80 ∷ 67 ∷ 0 ∷ 0 ∷ 0 ∷ 17 ∷ 0 ∷ 0 ∷ 0 ∷ 16 ∷ 10 ∷ 12 ∷ 10 ∷ 4 ∷ 69 ∷ 99 ∷ 104 ∷ 111 ∷ 18 ∷ 4 ∷ 69 ∷ 99 ∷ 104 ∷ 111 ∷ 32 ∷ 2 ∷ 97 ∷ 80 ∷ 82 ∷ 80 ∷ 67 ∷ 0 ∷ 0 ∷ 0 ∷ 21 ∷ 0 ∷ 0 ∷ 0 ∷ 20 ∷ 10 ∷ 12 ∷ 10 ∷ 3 ∷ 83 ∷ 117 ∷ 109 ∷ 18 ∷ 5 ∷ 66 ∷ 121 ∷ 116 ∷ 101 ∷ 115 ∷ 32 ∷ 130 ∷ 128 ∷ 128 ∷ 128 ∷ 48 ∷ 97 ∷ 80 ∷ 82 ∷ 80 ∷ 67 ∷ 0 ∷ 0 ∷ 0 ∷ 23 ∷ 0 ∷ 0 ∷ 0 ∷ 23 ∷ 10 ∷ 15 ∷ 10 ∷ 4 ∷ 69 ∷ 99 ∷ 104 ∷ 111 ∷ 18 ∷ 7 ∷ 82 ∷ 101 ∷ 118 ∷ 101 ∷ 114 ∷ 115 ∷ 101 ∷ 32 ∷ 130 ∷ 128 ∷ 128 ∷ 128 ∷ 32 ∷ 80 ∷ 82 ∷ 80 ∷ 67 ∷ 0 ∷ 0 ∷ 0 ∷ 20 ∷ 0 ∷ 0 ∷ 0 ∷ 18 ∷ 10 ∷ 8 ∷ 10 ∷ 2 ∷ 78 ∷ 111 ∷ 18 ∷ 2 ∷ 79 ∷ 112 ∷ 32 ∷ 130 ∷ 128 ∷ 128 ∷ 128 ∷ 64 ∷ 40 ∷ 1 ∷ 97 ∷ 1 ∷ []) ∷ (97 ∷ []) ∷ [])
unfolding decode_pairs encode_with digits
row_s1_31 = (refl, refl)

row_s1_32 : Draws (codes "slots 1\nrequests 8\nopen a serve\nclient\nhold a\ndrop a\nclient\ncall a Echo.Reverse - retry=2\ncall a No.Op 6869 att=01 retry=1\n") (1 ∷ 2 ∷ 1 ∷ 1 ∷ 32 ∷ 32 ∷ 32 ∷ 1 ∷ 32 ∷ 32 ∷ 2 ∷ 32 ∷ 32 ∷ 32 ∷ 2 ∷ 1 ∷ 2 ∷ 1 ∷ 2 ∷ 32 ∷ 32 ∷ 2 ∷ 1 ∷ 1 ∷ 32 ∷ 2 ∷ 32 ∷ 2 ∷ 32 ∷ 1 ∷ 2 ∷ 2 ∷ 1 ∷ 1 ∷ 2 ∷ 1 ∷ 32 ∷ 32 ∷ 1 ∷ 1 ∷ 1 ∷ 32 ∷ 2 ∷ 2 ∷ 2 ∷ 2 ∷ 32 ∷ 32 ∷ 2 ∷ 1 ∷ 2 ∷ 1 ∷ 2 ∷ 32 ∷ 32 ∷ 32 ∷ 1 ∷ 1 ∷ 2 ∷ 1 ∷ 1 ∷ 2 ∷ 1 ∷ 1 ∷ 32 ∷ 1 ∷ 1 ∷ 2 ∷ 2 ∷ 2 ∷ 2 ∷ 2 ∷ 1 ∷ 1 ∷ 2 ∷ 2 ∷ 2 ∷ 2 ∷ 1 ∷ 2 ∷ 32 ∷ 2 ∷ 1 ∷ 2 ∷ 2 ∷ 2 ∷ 1 ∷ 2 ∷ 2 ∷ 2 ∷ 2 ∷ 2 ∷ 1 ∷ 1 ∷ 1 ∷ 1 ∷ 2 ∷ 2 ∷ 2 ∷ 32 ∷ 2 ∷ 2 ∷ 32 ∷ 2 ∷ 1 ∷ 1 ∷ 32 ∷ 1 ∷ 2 ∷ 2 ∷ 2 ∷ 2 ∷ 1 ∷ 1 ∷ 1 ∷ 32 ∷ 1 ∷ 1 ∷ 32 ∷ 32 ∷ 1 ∷ 1 ∷ 1 ∷ 2 ∷ 1 ∷ 2 ∷ 32 ∷ 2 ∷ 2 ∷ 1 ∷ 2 ∷ 1 ∷ 2 ∷ 1 ∷ 1 ∷ 1 ∷ 1 ∷ 2 ∷ 1 ∷ 2 ∷ 2 ∷ 2 ∷ 1 ∷ 1 ∷ 1 ∷ 2 ∷ 1 ∷ 1 ∷ 2 ∷ 32 ∷ 32 ∷ 32 ∷ 2 ∷ 1 ∷ 2 ∷ 32 ∷ 32 ∷ 2 ∷ 2 ∷ 32 ∷ []) (codes "S7" ∷ codes "S7" ∷ codes "A3" ∷ codes "A4" ∷ codes "S7" ∷ [] ∷ [] ∷ [] ∷ [] ∷ [] ∷ codes "I1" ∷ [] ∷ [] ∷ [] ∷ codes "K1" ∷ [] ∷ codes "I2" ∷ [] ∷ codes "T1" ∷ [] ∷ [] ∷ codes "A3" ∷ [] ∷ [] ∷ [] ∷ codes "S2" ∷ [] ∷ codes "T1" ∷ [] ∷ [] ∷ codes "A8" ∷ codes "C1" ∷ [] ∷ [] ∷ codes "M1" ∷ [] ∷ [] ∷ [] ∷ [] ∷ [] ∷ [] ∷ [] ∷ codes "C7" ∷ codes "C2" ∷ codes "S2" ∷ codes "L1" ∷ [] ∷ [] ∷ codes "M2" ∷ [] ∷ codes "A8" ∷ [] ∷ codes "W1" ∷ codes "R1" ∷ codes "I7" ∷ codes "I3" ∷ [] ∷ [] ∷ codes "P1" ∷ [] ∷ [] ∷ codes "C8" ∷ [] ∷ [] ∷ codes "K2" ∷ [] ∷ [] ∷ codes "L2" ∷ codes "C4" ∷ codes "A4" ∷ codes "S7" ∷ codes "I1" ∷ [] ∷ [] ∷ codes "I1" ∷ codes "K1" ∷ codes "I2" ∷ codes "T1" ∷ [] ∷ codes "A3" ∷ codes "I6" ∷ codes "S2" ∷ [] ∷ codes "T1" ∷ codes "A8" ∷ codes "C1" ∷ [] ∷ codes "M1" ∷ codes "C7" ∷ codes "C2" ∷ codes "S2" ∷ codes "L1" ∷ [] ∷ [] ∷ [] ∷ [] ∷ codes "M2" ∷ codes "A8" ∷ codes "W1" ∷ codes "I8" ∷ codes "A8" ∷ codes "W1" ∷ [] ∷ codes "A8" ∷ [] ∷ [] ∷ [] ∷ [] ∷ codes "W1" ∷ codes "P1" ∷ codes "C8" ∷ codes "L2" ∷ [] ∷ [] ∷ [] ∷ codes "R1" ∷ [] ∷ [] ∷ codes "I7" ∷ codes "I3" ∷ [] ∷ [] ∷ [] ∷ codes "C4" ∷ [] ∷ codes "A4" ∷ codes "K2" ∷ [] ∷ [] ∷ [] ∷ [] ∷ [] ∷ [] ∷ [] ∷ [] ∷ [] ∷ [] ∷ [] ∷ [] ∷ [] ∷ [] ∷ [] ∷ [] ∷ [] ∷ [] ∷ [] ∷ [] ∷ [] ∷ [] ∷ codes "I6" ∷ codes "I8" ∷ [] ∷ [] ∷ [] ∷ [] ∷ [] ∷ [] ∷ [] ∷ [] ∷ [] ∷ []) (Some (Opened 0 0 0) ∷ Some (Held) ∷ Some (Kept) ∷ Some (Answered 1 [] []) ∷ Some (Peer 4294967297 (pos 1001)) ∷ [], (24, 1) ∷ (32, 2) ∷ [], (80 ∷ 82 ∷ 80 ∷ 67 ∷ 0 ∷ 0 ∷ 0 ∷ 19 ∷ 0 ∷ 0 ∷ 0 ∷ 19 ∷ 10 ∷ 15 ∷ 10 ∷ 4 ∷ 69 ∷ 99 ∷ 104 ∷ 111 ∷ 18 ∷ 7 ∷ 82 ∷ 101 ∷ 118 ∷ 101 ∷ 114 ∷ 115 ∷ 101 ∷ 32 ∷ 2 ∷ 80 ∷ 82 ∷ 80 ∷ 67 ∷ 0 ∷ 0 ∷ 0 ∷ 21 ∷ 0 ∷ 0 ∷ 0 ∷ 18 ∷ 10 ∷ 8 ∷ 10 ∷ 2 ∷ 78 ∷ 111 ∷ 18 ∷ 2 ∷ 79 ∷ 112 ∷ 32 ∷ 130 ∷ 128 ∷ 128 ∷ 128 ∷ 16 ∷ 40 ∷ 1 ∷ 104 ∷ 105 ∷ 1 ∷ []) ∷ [])
unfolding decode_pairs encode_with digits
row_s1_32 = (refl, refl)

row_s1_33 : Draws (codes "slots 1\nrequests 1\nopen a\nclient\nfail a 1500\ncall a Echo.Echo - att=01\nclient\nexpire 1.2\nsend a 626364\nclient\nsend b 61\nclient\nsend a 626364\nsend a 61\ncall b Echo.Reverse 6869 retry=1\n") (4 ∷ 4 ∷ 1 ∷ 3 ∷ 32 ∷ 3 ∷ 4 ∷ 2 ∷ 1 ∷ 1 ∷ 3 ∷ 2 ∷ 32 ∷ 2 ∷ 2 ∷ 3 ∷ 4 ∷ 2 ∷ 2 ∷ 2 ∷ 4 ∷ 2 ∷ 2 ∷ 32 ∷ 1 ∷ 1 ∷ 2 ∷ 32 ∷ 1 ∷ 3 ∷ 2 ∷ 1 ∷ 1 ∷ 3 ∷ 4 ∷ 2 ∷ 4 ∷ 2 ∷ 2 ∷ 32 ∷ 3 ∷ 3 ∷ 3 ∷ 4 ∷ 2 ∷ 32 ∷ 1 ∷ 4 ∷ 3 ∷ 2 ∷ 3 ∷ 2 ∷ 3 ∷ 2 ∷ 3 ∷ 3 ∷ 3 ∷ 4 ∷ 1 ∷ 2 ∷ 1 ∷ 4 ∷ 1 ∷ 4 ∷ 1 ∷ 4 ∷ 4 ∷ 3 ∷ 1 ∷ 3 ∷ 2 ∷ 2 ∷ 3 ∷ 2 ∷ 4 ∷ 2 ∷ 1 ∷ 3 ∷ 4 ∷ 4 ∷ 3 ∷ 1 ∷ 32 ∷ 1 ∷ 4 ∷ 4 ∷ 2 ∷ 2 ∷ 4 ∷ 3 ∷ 4 ∷ 4 ∷ 32 ∷ 2 ∷ 32 ∷ 32 ∷ 1 ∷ 32 ∷ 4 ∷ 4 ∷ 1 ∷ 2 ∷ 3 ∷ 3 ∷ 3 ∷ 4 ∷ 32 ∷ 4 ∷ 4 ∷ 1 ∷ 2 ∷ 3 ∷ 32 ∷ 3 ∷ 3 ∷ 32 ∷ 4 ∷ 1 ∷ 2 ∷ 32 ∷ 4 ∷ 1 ∷ 4 ∷ 2 ∷ 32 ∷ 1 ∷ 2 ∷ 1 ∷ 32 ∷ 3 ∷ 3 ∷ 3 ∷ 2 ∷ 32 ∷ 1 ∷ 1 ∷ 32 ∷ 4 ∷ 1 ∷ 2 ∷ 4 ∷ 1 ∷ 4 ∷ 3 ∷ 2 ∷ 4 ∷ 3 ∷ 4 ∷ 32 ∷ 32 ∷ 4 ∷ 4 ∷ 2 ∷ 4 ∷ 3 ∷ 1 ∷ 1 ∷ 1 ∷ 2 ∷ 3 ∷ []) (codes "S7" ∷ codes "A3" ∷ codes "S7" ∷ codes "S7" ∷ codes "S7" ∷ [] ∷ codes "A8" ∷ codes "T2" ∷ codes "A3" ∷ codes "A5" ∷ [] ∷ codes "S7" ∷ [] ∷ codes "A3" ∷ codes "A4" ∷ [] ∷ codes "C1" ∷ [] ∷ [] ∷ [] ∷ codes "M1" ∷ [] ∷ [] ∷ [] ∷ codes "S4" ∷ codes "A4" ∷ [] ∷ [] ∷ codes "A4" ∷ [] ∷ [] ∷ codes "S7" ∷ codes "I1" ∷ [] ∷ codes "C7" ∷ [] ∷ codes "C2" ∷ [] ∷ [] ∷ [] ∷ [] ∷ [] ∷ [] ∷ codes "S2" ∷ [] ∷ [] ∷ codes "K1" ∷ codes "L1" ∷ [] ∷ [] ∷ [] ∷ [] ∷ [] ∷ [] ∷ [] ∷ [] ∷ [] ∷ codes "M2" ∷ codes "I2" ∷ [] ∷ codes "T1" ∷ codes "A8" ∷ codes "A3" ∷ codes "A8" ∷ codes "A4" ∷ codes "S5" ∷ codes "P1" ∷ [] ∷ codes "I7" ∷ [] ∷ [] ∷ [] ∷ [] ∷ [] ∷ codes "C8" ∷ [] ∷ codes "I4" ∷ [] ∷ codes "L2" ∷ codes "C4" ∷ [] ∷ codes "K2" ∷ [] ∷ codes "I6" ∷ codes "A4" ∷ codes "A6" ∷ [] ∷ [] ∷ codes "S2" ∷ [] ∷ codes "L1" ∷ codes "W3" ∷ codes "R1" ∷ [] ∷ codes "T2" ∷ codes "T2" ∷ codes "I8" ∷ [] ∷ codes "L2" ∷ codes "A7" ∷ [] ∷ [] ∷ [] ∷ [] ∷ [] ∷ codes "S7" ∷ [] ∷ codes "A3" ∷ codes "A4" ∷ [] ∷ [] ∷ [] ∷ [] ∷ [] ∷ [] ∷ [] ∷ codes "S7" ∷ [] ∷ [] ∷ [] ∷ [] ∷ [] ∷ [] ∷ [] ∷ [] ∷ [] ∷ [] ∷ [] ∷ [] ∷ [] ∷ [] ∷ [] ∷ [] ∷ [] ∷ [] ∷ [] ∷ [] ∷ [] ∷ [] ∷ [] ∷ [] ∷ [] ∷ [] ∷ [] ∷ [] ∷ [] ∷ [] ∷ [] ∷ [] ∷ [] ∷ [] ∷ [] ∷ [] ∷ [] ∷ [] ∷ [] ∷ [] ∷ [] ∷ [] ∷ [] ∷ []) (Some (Opened 0 0 0) ∷ Some (Failed) ∷ Some (CallFailed 1 1009) ∷ Some (NotBegun) ∷ Some (Gone (record { 0 = 4294967299 })) ∷ Some (Unopened) ∷ None ∷ Some (Gone (record { 0 = 8589934592 })) ∷ Some (Unopened) ∷ [], (48, 9223372036854775809) ∷ [], ([]) ∷ [])
unfolding decode_pairs encode_with digits
row_s1_33 = (refl, refl)

row_s1_34 : Draws (codes "slots 1\nrequests 2\nopen a piece=7 serve\nopen b piece=1 fail=1 serve\nclient\ncall a Sum.Bytes 6869 retry=2\nsend b 626364\nclient\nexpire 1.1\njoin 1.1\nexpire 1.1\nclient\ncall b,a Echo.Echo 61 att=01 retry=1\nclient\ncall b Sum.Bytes - att=01 retry=2\nexpire 4.1\n") (1 ∷ 4 ∷ 4 ∷ 3 ∷ 1 ∷ 33 ∷ 1 ∷ 2 ∷ 3 ∷ 3 ∷ 2 ∷ 1 ∷ 4 ∷ 2 ∷ 3 ∷ 3 ∷ 1 ∷ 33 ∷ 2 ∷ 4 ∷ 1 ∷ 3 ∷ 1 ∷ 3 ∷ 3 ∷ 33 ∷ 3 ∷ 33 ∷ 2 ∷ 32 ∷ 4 ∷ 2 ∷ 2 ∷ 4 ∷ 4 ∷ 1 ∷ 33 ∷ 1 ∷ 33 ∷ 4 ∷ 3 ∷ 2 ∷ 32 ∷ 4 ∷ 4 ∷ 3 ∷ 2 ∷ 2 ∷ 33 ∷ 33 ∷ 1 ∷ 3 ∷ 1 ∷ 32 ∷ 1 ∷ 3 ∷ 32 ∷ 3 ∷ 3 ∷ 2 ∷ 2 ∷ 2 ∷ 3 ∷ 1 ∷ 1 ∷ 33 ∷ 4 ∷ 3 ∷ 4 ∷ 4 ∷ 3 ∷ 4 ∷ 2 ∷ 4 ∷ 2 ∷ 32 ∷ 3 ∷ 1 ∷ 1 ∷ 3 ∷ 1 ∷ 1 ∷ 4 ∷ 2 ∷ 3 ∷ 33 ∷ 4 ∷ 32 ∷ 2 ∷ 3 ∷ 4 ∷ 1 ∷ 32 ∷ 32 ∷ 4 ∷ 3 ∷ 33 ∷ 2 ∷ 2 ∷ 1 ∷ 4 ∷ 1 ∷ 1 ∷ 1 ∷ 33 ∷ 4 ∷ 1 ∷ 2 ∷ 2 ∷ 3 ∷ 3 ∷ 4 ∷ 4 ∷ 33 ∷ 1 ∷ 32 ∷ 33 ∷ 33 ∷ 32 ∷ 1 ∷ 3 ∷ 4 ∷ 1 ∷ 32 ∷ 4 ∷ 32 ∷ 4 ∷ 2 ∷ 2 ∷ 3 ∷ 3 ∷ 1 ∷ 32 ∷ 33 ∷ 3 ∷ 1 ∷ 2 ∷ 1 ∷ 4 ∷ 2 ∷ 3 ∷ 4 ∷ 4 ∷ 4 ∷ 2 ∷ 3 ∷ 3 ∷ 1 ∷ 32 ∷ 2 ∷ 1 ∷ 33 ∷ 1 ∷ 1 ∷ 3 ∷ 3 ∷ 4 ∷ 4 ∷ 3 ∷ 32 ∷ []) (codes "S7" ∷ codes "S7" ∷ codes "T2" ∷ codes "S7" ∷ codes "I1" ∷ codes "S7" ∷ codes "K1" ∷ codes "T2" ∷ [] ∷ [] ∷ codes "T2" ∷ codes "I2" ∷ [] ∷ codes "T2" ∷ [] ∷ [] ∷ codes "T1" ∷ [] ∷ [] ∷ [] ∷ codes "A3" ∷ [] ∷ codes "S2" ∷ [] ∷ [] ∷ [] ∷ [] ∷ [] ∷ [] ∷ codes "S7" ∷ [] ∷ [] ∷ [] ∷ [] ∷ [] ∷ codes "T1" ∷ [] ∷ codes "A8" ∷ [] ∷ [] ∷ [] ∷ [] ∷ [] ∷ [] ∷ [] ∷ [] ∷ [] ∷ [] ∷ [] ∷ [] ∷ codes "C1" ∷ [] ∷ codes "M1" ∷ [] ∷ codes "C7" ∷ [] ∷ [] ∷ [] ∷ [] ∷ [] ∷ [] ∷ [] ∷ [] ∷ codes "C2" ∷ codes "S2" ∷ [] ∷ [] ∷ [] ∷ [] ∷ [] ∷ [] ∷ [] ∷ [] ∷ [] ∷ [] ∷ [] ∷ [] ∷ codes "L1" ∷ codes "M2" ∷ [] ∷ codes "A8" ∷ codes "W1" ∷ [] ∷ [] ∷ [] ∷ [] ∷ [] ∷ [] ∷ [] ∷ [] ∷ [] ∷ codes "A8" ∷ [] ∷ [] ∷ [] ∷ [] ∷ [] ∷ [] ∷ [] ∷ codes "W1" ∷ [] ∷ codes "A8" ∷ codes "W1" ∷ codes "A8" ∷ [] ∷ [] ∷ codes "W1" ∷ [] ∷ [] ∷ [] ∷ [] ∷ [] ∷ [] ∷ [] ∷ codes "A8" ∷ [] ∷ [] ∷ [] ∷ [] ∷ codes "W1" ∷ [] ∷ [] ∷ codes "P1" ∷ codes "R1" ∷ [] ∷ codes "I7" ∷ [] ∷ [] ∷ [] ∷ [] ∷ [] ∷ codes "C8" ∷ codes "I3" ∷ [] ∷ [] ∷ codes "L2" ∷ [] ∷ codes "C4" ∷ [] ∷ [] ∷ [] ∷ [] ∷ [] ∷ [] ∷ [] ∷ [] ∷ [] ∷ codes "A4" ∷ codes "K2" ∷ [] ∷ codes "S7" ∷ [] ∷ [] ∷ [] ∷ [] ∷ [] ∷ [] ∷ [] ∷ [] ∷ codes "I6" ∷ []) (Some (Opened 0 0 0) ∷ Some (SlotsFull) ∷ Some (Answered 1 (0 ∷ 0 ∷ 0 ∷ 0 ∷ 0 ∷ 0 ∷ 0 ∷ 209 ∷ []) []) ∷ Some (Unopened) ∷ Some (NotBegun) ∷ Some (NotBegun) ∷ Some (NotBegun) ∷ Some (Unopened) ∷ Some (Unopened) ∷ Some (NotBegun) ∷ [], (16, 1) ∷ [], (80 ∷ 82 ∷ 80 ∷ 67 ∷ 0 ∷ 0 ∷ 0 ∷ 18 ∷ 0 ∷ 0 ∷ 0 ∷ 16 ∷ 10 ∷ 12 ∷ 10 ∷ 3 ∷ 83 ∷ 117 ∷ 109 ∷ 18 ∷ 5 ∷ 66 ∷ 121 ∷ 116 ∷ 101 ∷ 115 ∷ 32 ∷ 2 ∷ 104 ∷ 105 ∷ []) ∷ ([]) ∷ [])
unfolding decode_pairs encode_with digits
row_s1_34 = (refl, refl)

row_s1_35 : Draws (codes "slots 3\nrequests 8\nopen a again=2 serve\nclient\ncall a No.Op 61\n") (32 ∷ 1 ∷ 1 ∷ 1 ∷ 1 ∷ 32 ∷ 1 ∷ 1 ∷ 1 ∷ 32 ∷ 1 ∷ 1 ∷ 1 ∷ 1 ∷ 32 ∷ 1 ∷ 32 ∷ 1 ∷ 32 ∷ 1 ∷ 1 ∷ 1 ∷ 32 ∷ 32 ∷ 1 ∷ 32 ∷ 1 ∷ 32 ∷ 32 ∷ 1 ∷ 32 ∷ 32 ∷ 1 ∷ 32 ∷ 1 ∷ 1 ∷ 1 ∷ 1 ∷ 1 ∷ 1 ∷ 1 ∷ 1 ∷ 1 ∷ 32 ∷ 1 ∷ 32 ∷ 32 ∷ 1 ∷ 32 ∷ 32 ∷ 1 ∷ 32 ∷ 32 ∷ 1 ∷ 1 ∷ 32 ∷ 1 ∷ 1 ∷ 1 ∷ 32 ∷ 1 ∷ 32 ∷ 1 ∷ 1 ∷ 1 ∷ 32 ∷ 1 ∷ 1 ∷ 32 ∷ 1 ∷ 1 ∷ 1 ∷ 1 ∷ 1 ∷ 32 ∷ 1 ∷ 32 ∷ 1 ∷ 1 ∷ 1 ∷ 1 ∷ 1 ∷ 1 ∷ 1 ∷ 32 ∷ 1 ∷ 32 ∷ 1 ∷ 32 ∷ 1 ∷ 1 ∷ 1 ∷ 32 ∷ 1 ∷ 1 ∷ 1 ∷ 32 ∷ 32 ∷ 1 ∷ 32 ∷ 32 ∷ 1 ∷ 1 ∷ 32 ∷ 32 ∷ 32 ∷ 32 ∷ 32 ∷ 1 ∷ 1 ∷ 1 ∷ 1 ∷ 1 ∷ 1 ∷ 32 ∷ 32 ∷ 1 ∷ 1 ∷ 1 ∷ 1 ∷ 32 ∷ 1 ∷ 1 ∷ 1 ∷ 32 ∷ 1 ∷ 1 ∷ 1 ∷ 32 ∷ 1 ∷ 1 ∷ 1 ∷ 1 ∷ 32 ∷ 1 ∷ 32 ∷ 1 ∷ 1 ∷ 1 ∷ 1 ∷ 1 ∷ 1 ∷ 1 ∷ 1 ∷ 32 ∷ 1 ∷ 32 ∷ 1 ∷ 1 ∷ 1 ∷ 32 ∷ 1 ∷ 32 ∷ 32 ∷ 1 ∷ 1 ∷ 32 ∷ 1 ∷ 1 ∷ 1 ∷ []) (codes "S7" ∷ codes "S7" ∷ codes "I1" ∷ codes "K1" ∷ codes "I2" ∷ [] ∷ codes "T1" ∷ codes "A3" ∷ codes "S2" ∷ [] ∷ codes "T1" ∷ codes "A8" ∷ codes "C1" ∷ codes "M1" ∷ [] ∷ codes "C7" ∷ [] ∷ codes "C2" ∷ [] ∷ codes "S2" ∷ codes "L1" ∷ codes "M2" ∷ [] ∷ [] ∷ codes "A8" ∷ [] ∷ codes "W1" ∷ [] ∷ [] ∷ codes "A8" ∷ [] ∷ [] ∷ codes "W1" ∷ [] ∷ codes "W2" ∷ codes "A8" ∷ codes "W1" ∷ codes "P1" ∷ codes "C8" ∷ codes "L2" ∷ codes "C4" ∷ codes "A4" ∷ [] ∷ codes "R1" ∷ [] ∷ codes "I7" ∷ codes "I3" ∷ [] ∷ codes "K2" ∷ codes "I6" ∷ [] ∷ codes "I8" ∷ [] ∷ [] ∷ [] ∷ [] ∷ [] ∷ [] ∷ [] ∷ [] ∷ [] ∷ [] ∷ [] ∷ [] ∷ [] ∷ [] ∷ [] ∷ [] ∷ [] ∷ [] ∷ [] ∷ [] ∷ [] ∷ [] ∷ [] ∷ [] ∷ [] ∷ [] ∷ [] ∷ [] ∷ [] ∷ [] ∷ [] ∷ [] ∷ [] ∷ [] ∷ [] ∷ [] ∷ [] ∷ [] ∷ [] ∷ [] ∷ [] ∷ [] ∷ [] ∷ [] ∷ [] ∷ [] ∷ [] ∷ [] ∷ [] ∷ [] ∷ [] ∷ [] ∷ [] ∷ [] ∷ [] ∷ [] ∷ [] ∷ [] ∷ [] ∷ [] ∷ [] ∷ [] ∷ [] ∷ [] ∷ [] ∷ [] ∷ [] ∷ [] ∷ [] ∷ [] ∷ [] ∷ [] ∷ [] ∷ [] ∷ [] ∷ [] ∷ [] ∷ [] ∷ [] ∷ [] ∷ [] ∷ [] ∷ [] ∷ [] ∷ [] ∷ [] ∷ [] ∷ [] ∷ [] ∷ [] ∷ [] ∷ [] ∷ [] ∷ [] ∷ [] ∷ [] ∷ [] ∷ [] ∷ [] ∷ [] ∷ [] ∷ [] ∷ [] ∷ [] ∷ [] ∷ [] ∷ [] ∷ [] ∷ []) (Some (Opened 0 0 0) ∷ Some (Peer 1 (pos 1001)) ∷ [], (8, 1) ∷ [], (80 ∷ 82 ∷ 80 ∷ 67 ∷ 0 ∷ 0 ∷ 0 ∷ 13 ∷ 0 ∷ 0 ∷ 0 ∷ 12 ∷ 10 ∷ 8 ∷ 10 ∷ 2 ∷ 78 ∷ 111 ∷ 18 ∷ 2 ∷ 79 ∷ 112 ∷ 32 ∷ 2 ∷ 97 ∷ []) ∷ [])
unfolding decode_pairs encode_with digits
row_s1_35 = (refl, refl)

row_s1_36 : Draws (codes "slots 1\nrequests 1\nopen a piece=30 again=2\nopen b serve\nclient\nhold b\ncall b Echo.Echo 6869\ncall b,a Echo.Echo 61 att=01 retry=1\nclient\ncall b,a Echo.Echo 61 att=01 retry=1\nexpire 1.3\nclient\ncall b,a Echo.Reverse 61\nsend b 626364\nclient\nfail a 1501\nfail a 1501\n") (1 ∷ 1 ∷ 1 ∷ 3 ∷ 4 ∷ 1 ∷ 2 ∷ 2 ∷ 1 ∷ 1 ∷ 3 ∷ 3 ∷ 4 ∷ 33 ∷ 2 ∷ 33 ∷ 3 ∷ 1 ∷ 4 ∷ 32 ∷ 3 ∷ 4 ∷ 2 ∷ 4 ∷ 2 ∷ 4 ∷ 4 ∷ 1 ∷ 3 ∷ 2 ∷ 3 ∷ 1 ∷ 4 ∷ 33 ∷ 4 ∷ 1 ∷ 33 ∷ 1 ∷ 2 ∷ 1 ∷ 4 ∷ 2 ∷ 2 ∷ 3 ∷ 33 ∷ 33 ∷ 4 ∷ 2 ∷ 3 ∷ 1 ∷ 3 ∷ 33 ∷ 1 ∷ 1 ∷ 1 ∷ 33 ∷ 2 ∷ 4 ∷ 4 ∷ 2 ∷ 3 ∷ 3 ∷ 2 ∷ 1 ∷ 2 ∷ 33 ∷ 32 ∷ 33 ∷ 2 ∷ 1 ∷ 32 ∷ 1 ∷ 2 ∷ 3 ∷ 2 ∷ 32 ∷ 2 ∷ 32 ∷ 4 ∷ 1 ∷ 32 ∷ 1 ∷ 3 ∷ 32 ∷ 32 ∷ 2 ∷ 3 ∷ 3 ∷ 32 ∷ 2 ∷ 33 ∷ 3 ∷ 4 ∷ 1 ∷ 3 ∷ 3 ∷ 1 ∷ 32 ∷ 33 ∷ 2 ∷ 1 ∷ 4 ∷ 4 ∷ 1 ∷ 4 ∷ 32 ∷ 3 ∷ 1 ∷ 33 ∷ 2 ∷ 1 ∷ 33 ∷ 32 ∷ 3 ∷ 2 ∷ 2 ∷ 4 ∷ 2 ∷ 4 ∷ 2 ∷ 1 ∷ 3 ∷ 1 ∷ 2 ∷ 3 ∷ 4 ∷ 2 ∷ 32 ∷ 4 ∷ 2 ∷ 1 ∷ 1 ∷ 2 ∷ 3 ∷ 4 ∷ 4 ∷ 32 ∷ 2 ∷ 3 ∷ 1 ∷ 33 ∷ 3 ∷ 2 ∷ 1 ∷ 1 ∷ 33 ∷ 4 ∷ 4 ∷ 33 ∷ 4 ∷ 4 ∷ 3 ∷ 32 ∷ 33 ∷ 3 ∷ 3 ∷ 33 ∷ 3 ∷ 3 ∷ 2 ∷ []) (codes "S7" ∷ codes "S7" ∷ codes "S7" ∷ codes "S7" ∷ codes "S7" ∷ [] ∷ codes "S7" ∷ codes "T2" ∷ [] ∷ [] ∷ codes "S7" ∷ [] ∷ codes "A3" ∷ codes "S7" ∷ [] ∷ [] ∷ [] ∷ [] ∷ codes "A5" ∷ codes "S7" ∷ [] ∷ codes "S4" ∷ [] ∷ codes "A4" ∷ [] ∷ codes "A4" ∷ codes "A6" ∷ [] ∷ [] ∷ [] ∷ [] ∷ [] ∷ codes "S2" ∷ [] ∷ codes "L1" ∷ [] ∷ [] ∷ [] ∷ [] ∷ [] ∷ codes "W3" ∷ [] ∷ [] ∷ [] ∷ [] ∷ [] ∷ codes "L2" ∷ [] ∷ [] ∷ [] ∷ [] ∷ [] ∷ [] ∷ [] ∷ [] ∷ [] ∷ [] ∷ codes "A7" ∷ codes "S7" ∷ [] ∷ [] ∷ [] ∷ [] ∷ [] ∷ [] ∷ [] ∷ codes "R1" ∷ [] ∷ [] ∷ [] ∷ codes "T2" ∷ [] ∷ [] ∷ [] ∷ [] ∷ codes "T2" ∷ [] ∷ codes "T2" ∷ codes "A3" ∷ [] ∷ codes "T2" ∷ [] ∷ [] ∷ [] ∷ [] ∷ [] ∷ [] ∷ [] ∷ [] ∷ [] ∷ [] ∷ [] ∷ codes "A4" ∷ [] ∷ [] ∷ [] ∷ [] ∷ [] ∷ [] ∷ [] ∷ [] ∷ [] ∷ [] ∷ [] ∷ [] ∷ [] ∷ [] ∷ [] ∷ [] ∷ [] ∷ [] ∷ [] ∷ [] ∷ [] ∷ [] ∷ [] ∷ [] ∷ [] ∷ [] ∷ [] ∷ [] ∷ [] ∷ [] ∷ [] ∷ [] ∷ [] ∷ [] ∷ [] ∷ [] ∷ [] ∷ [] ∷ [] ∷ [] ∷ [] ∷ [] ∷ [] ∷ [] ∷ [] ∷ [] ∷ [] ∷ [] ∷ [] ∷ [] ∷ [] ∷ [] ∷ [] ∷ [] ∷ [] ∷ [] ∷ [] ∷ [] ∷ [] ∷ [] ∷ [] ∷ [] ∷ [] ∷ [] ∷ [] ∷ [] ∷ [] ∷ []) (Some (Opened 0 0 0) ∷ Some (SlotsFull) ∷ Some (Unopened) ∷ Some (Unopened) ∷ Some (Unopened) ∷ Some (Unopened) ∷ Some (NotBegun) ∷ Some (Unopened) ∷ Some (Unopened) ∷ Some (Failed) ∷ Some (Gone (record { 0 = 8589934592 })) ∷ [], [], ([]) ∷ ([]) ∷ [])
unfolding decode_pairs encode_with digits
row_s1_36 = (refl, refl)

row_s1_37 : Draws (codes "slots 3\nrequests 1\nopen b again=2 serve\nclient\ncall a Echo.Echo 61 retry=2\nsend a 626364\ncall a Sum.Bytes 61 retry=2\nclient\ncall a No.Op 6869 retry=2\nopen b fail=3 serve\nclient\nfail b 1500\njoin 2.1\nclient\nopen b serve\n") (2 ∷ 3 ∷ 2 ∷ 34 ∷ 2 ∷ 2 ∷ 4 ∷ 2 ∷ 4 ∷ 1 ∷ 33 ∷ 33 ∷ 1 ∷ 33 ∷ 2 ∷ 4 ∷ 33 ∷ 3 ∷ 3 ∷ 1 ∷ 34 ∷ 1 ∷ 3 ∷ 33 ∷ 1 ∷ 34 ∷ 33 ∷ 2 ∷ 2 ∷ 2 ∷ 2 ∷ 3 ∷ 2 ∷ 3 ∷ 4 ∷ 3 ∷ 3 ∷ 3 ∷ 4 ∷ 4 ∷ 1 ∷ 32 ∷ 3 ∷ 4 ∷ 34 ∷ 34 ∷ 3 ∷ 34 ∷ 2 ∷ 33 ∷ 33 ∷ 33 ∷ 1 ∷ 2 ∷ 4 ∷ 4 ∷ 1 ∷ 1 ∷ 3 ∷ 1 ∷ 3 ∷ 4 ∷ 4 ∷ 2 ∷ 2 ∷ 4 ∷ 4 ∷ 4 ∷ 1 ∷ 3 ∷ 3 ∷ 34 ∷ 4 ∷ 4 ∷ 2 ∷ 3 ∷ 34 ∷ 4 ∷ 3 ∷ 2 ∷ 3 ∷ 2 ∷ 2 ∷ 2 ∷ 32 ∷ 34 ∷ 4 ∷ 32 ∷ 34 ∷ 32 ∷ 1 ∷ 4 ∷ 1 ∷ 2 ∷ 2 ∷ 1 ∷ 4 ∷ 4 ∷ 3 ∷ 2 ∷ 2 ∷ 34 ∷ 33 ∷ 4 ∷ 4 ∷ 2 ∷ 32 ∷ 1 ∷ 34 ∷ 4 ∷ 2 ∷ 2 ∷ 3 ∷ 1 ∷ 34 ∷ 4 ∷ 1 ∷ 1 ∷ 2 ∷ 1 ∷ 33 ∷ 3 ∷ 3 ∷ 2 ∷ 32 ∷ 2 ∷ 1 ∷ 2 ∷ 4 ∷ 4 ∷ 3 ∷ 4 ∷ 33 ∷ 1 ∷ 32 ∷ 1 ∷ 4 ∷ 4 ∷ 2 ∷ 33 ∷ 2 ∷ 33 ∷ 3 ∷ 3 ∷ 32 ∷ 34 ∷ 3 ∷ 34 ∷ 33 ∷ 2 ∷ 3 ∷ 4 ∷ 1 ∷ 32 ∷ 2 ∷ 4 ∷ 3 ∷ 32 ∷ 34 ∷ 1 ∷ []) (codes "S7" ∷ codes "S7" ∷ codes "A1" ∷ [] ∷ codes "A1" ∷ codes "S1" ∷ codes "A1" ∷ codes "S3" ∷ codes "A1" ∷ codes "S7" ∷ [] ∷ [] ∷ codes "S7" ∷ [] ∷ codes "S4" ∷ codes "A1" ∷ [] ∷ codes "A3" ∷ codes "A5" ∷ codes "S7" ∷ [] ∷ [] ∷ codes "S4" ∷ [] ∷ [] ∷ [] ∷ [] ∷ codes "A2" ∷ codes "S6" ∷ codes "S6" ∷ [] ∷ codes "A4" ∷ [] ∷ codes "A4" ∷ codes "S1" ∷ codes "A6" ∷ codes "S2" ∷ codes "L1" ∷ codes "S3" ∷ codes "S4" ∷ [] ∷ codes "S7" ∷ codes "W3" ∷ codes "A2" ∷ [] ∷ [] ∷ codes "L2" ∷ [] ∷ [] ∷ codes "S7" ∷ [] ∷ [] ∷ [] ∷ [] ∷ codes "S6" ∷ codes "S6" ∷ [] ∷ [] ∷ codes "A7" ∷ [] ∷ codes "T2" ∷ [] ∷ [] ∷ [] ∷ [] ∷ [] ∷ [] ∷ [] ∷ [] ∷ [] ∷ [] ∷ codes "S7" ∷ [] ∷ [] ∷ [] ∷ [] ∷ [] ∷ [] ∷ [] ∷ [] ∷ [] ∷ [] ∷ [] ∷ [] ∷ codes "R1" ∷ [] ∷ [] ∷ codes "T2" ∷ [] ∷ codes "T2" ∷ [] ∷ [] ∷ [] ∷ [] ∷ [] ∷ [] ∷ [] ∷ [] ∷ [] ∷ [] ∷ [] ∷ [] ∷ [] ∷ [] ∷ [] ∷ [] ∷ codes "T2" ∷ [] ∷ [] ∷ [] ∷ [] ∷ [] ∷ [] ∷ [] ∷ [] ∷ [] ∷ [] ∷ [] ∷ [] ∷ [] ∷ [] ∷ [] ∷ [] ∷ [] ∷ [] ∷ [] ∷ [] ∷ [] ∷ [] ∷ [] ∷ [] ∷ [] ∷ [] ∷ [] ∷ [] ∷ [] ∷ [] ∷ [] ∷ [] ∷ [] ∷ [] ∷ [] ∷ [] ∷ [] ∷ [] ∷ [] ∷ [] ∷ [] ∷ [] ∷ [] ∷ [] ∷ [] ∷ [] ∷ [] ∷ [] ∷ [] ∷ [] ∷ [] ∷ [] ∷ [] ∷ []) (Some (Opened 0 0 0) ∷ Some (Unopened) ∷ Some (Unopened) ∷ Some (Unopened) ∷ Some (Unopened) ∷ Some (Opened 1 0 1) ∷ Some (Failed) ∷ Some (NotBegun) ∷ Some (Opened 2 0 2) ∷ [], [], ([]) ∷ ([]) ∷ ([]) ∷ [])
unfolding decode_pairs encode_with digits
row_s1_37 = (refl, refl)

row_s1_38 : Draws (codes "slots 3\nrequests 1\nopen a serve end=0\nopen b fail=3 serve end=1\nclient\ncall b,a No.Op - att=01\nsend b 61\nsend b 626364\nclient\nsend b 61\ncall b Sum.Bytes 61\njoin 2.2\n") (2 ∷ 2 ∷ 2 ∷ 32 ∷ 2 ∷ 2 ∷ 33 ∷ 1 ∷ 2 ∷ 2 ∷ 1 ∷ 1 ∷ 2 ∷ 1 ∷ 2 ∷ 32 ∷ 33 ∷ 33 ∷ 2 ∷ 2 ∷ 33 ∷ 33 ∷ 2 ∷ 2 ∷ 2 ∷ 1 ∷ 2 ∷ 33 ∷ 1 ∷ 2 ∷ 32 ∷ 1 ∷ 1 ∷ 1 ∷ 2 ∷ 1 ∷ 1 ∷ 32 ∷ 33 ∷ 1 ∷ 33 ∷ 1 ∷ 1 ∷ 2 ∷ 2 ∷ 1 ∷ 1 ∷ 33 ∷ 1 ∷ 2 ∷ 33 ∷ 1 ∷ 2 ∷ 2 ∷ 32 ∷ 32 ∷ 2 ∷ 32 ∷ 1 ∷ 1 ∷ 32 ∷ 2 ∷ 1 ∷ 2 ∷ 2 ∷ 1 ∷ 32 ∷ 1 ∷ 33 ∷ 33 ∷ 1 ∷ 2 ∷ 1 ∷ 1 ∷ 1 ∷ 32 ∷ 2 ∷ 1 ∷ 32 ∷ 33 ∷ 1 ∷ 2 ∷ 2 ∷ 1 ∷ 2 ∷ 2 ∷ 1 ∷ 32 ∷ 32 ∷ 2 ∷ 33 ∷ 1 ∷ 32 ∷ 1 ∷ 32 ∷ 2 ∷ 33 ∷ 33 ∷ 33 ∷ 33 ∷ 2 ∷ 1 ∷ 1 ∷ 32 ∷ 1 ∷ 2 ∷ 2 ∷ 1 ∷ 32 ∷ 1 ∷ 32 ∷ 33 ∷ 32 ∷ 33 ∷ 2 ∷ 32 ∷ 33 ∷ 2 ∷ 33 ∷ 1 ∷ 2 ∷ 1 ∷ 1 ∷ 2 ∷ 33 ∷ 33 ∷ 2 ∷ 2 ∷ 1 ∷ 33 ∷ 2 ∷ 2 ∷ 33 ∷ 1 ∷ 1 ∷ 1 ∷ 33 ∷ 2 ∷ 2 ∷ 33 ∷ 1 ∷ 2 ∷ 1 ∷ 1 ∷ 2 ∷ 2 ∷ 2 ∷ 32 ∷ 2 ∷ 2 ∷ 1 ∷ 1 ∷ 32 ∷ 32 ∷ 2 ∷ 1 ∷ 32 ∷ 33 ∷ 1 ∷ 1 ∷ []) (codes "S7" ∷ codes "A3" ∷ codes "A8" ∷ codes "S7" ∷ codes "C1" ∷ codes "M1" ∷ codes "S7" ∷ codes "S7" ∷ codes "C7" ∷ codes "C2" ∷ codes "I1" ∷ codes "K1" ∷ codes "S2" ∷ codes "I2" ∷ codes "L1" ∷ codes "R1" ∷ [] ∷ [] ∷ codes "M2" ∷ codes "A8" ∷ [] ∷ [] ∷ codes "W1" ∷ codes "P1" ∷ codes "C8" ∷ codes "T1" ∷ codes "L2" ∷ codes "R1" ∷ codes "A3" ∷ codes "C4" ∷ codes "A3" ∷ codes "S2" ∷ codes "T1" ∷ codes "A8" ∷ codes "A4" ∷ codes "C1" ∷ codes "M1" ∷ codes "A5" ∷ codes "A3" ∷ codes "C7" ∷ codes "A5" ∷ codes "C2" ∷ codes "S2" ∷ codes "S7" ∷ codes "I1" ∷ codes "L1" ∷ codes "M2" ∷ codes "S4" ∷ codes "A8" ∷ codes "I1" ∷ codes "A4" ∷ codes "A8" ∷ codes "K1" ∷ codes "I2" ∷ codes "S4" ∷ codes "A4" ∷ codes "T1" ∷ codes "A4" ∷ codes "S5" ∷ codes "P1" ∷ codes "A6" ∷ codes "A3" ∷ codes "C8" ∷ codes "A4" ∷ codes "I7" ∷ codes "I7" ∷ codes "S2" ∷ codes "I4" ∷ codes "A4" ∷ codes "T2" ∷ codes "K2" ∷ codes "I4" ∷ codes "I6" ∷ codes "I8" ∷ codes "L2" ∷ codes "L1" ∷ codes "K2" ∷ codes "C4" ∷ codes "W3" ∷ codes "I7" ∷ codes "A4" ∷ codes "I6" ∷ codes "I8" ∷ codes "A6" ∷ codes "T2" ∷ codes "I7" ∷ codes "S2" ∷ codes "L2" ∷ codes "A7" ∷ [] ∷ codes "T2" ∷ codes "L1" ∷ codes "T2" ∷ codes "W3" ∷ codes "T2" ∷ [] ∷ [] ∷ [] ∷ [] ∷ [] ∷ [] ∷ codes "L2" ∷ codes "A7" ∷ [] ∷ codes "S7" ∷ [] ∷ [] ∷ codes "A3" ∷ [] ∷ codes "A4" ∷ [] ∷ [] ∷ [] ∷ [] ∷ [] ∷ [] ∷ [] ∷ [] ∷ [] ∷ codes "S7" ∷ [] ∷ codes "A3" ∷ codes "A4" ∷ [] ∷ [] ∷ [] ∷ [] ∷ [] ∷ [] ∷ [] ∷ [] ∷ [] ∷ [] ∷ [] ∷ [] ∷ [] ∷ [] ∷ [] ∷ [] ∷ [] ∷ [] ∷ [] ∷ [] ∷ [] ∷ [] ∷ [] ∷ [] ∷ [] ∷ [] ∷ [] ∷ [] ∷ [] ∷ [] ∷ [] ∷ [] ∷ [] ∷ [] ∷ [] ∷ [] ∷ [] ∷ []) (Some (Opened 0 0 0) ∷ Some (Opened 1 0 1) ∷ Some (CallFailed 1 1014) ∷ Some (Gone (record { 0 = 8589934592 })) ∷ Some (Gone (record { 0 = 8589934592 })) ∷ None ∷ Some (CallFailed 4294967297 1009) ∷ Some (Joined) ∷ [], (16, 9223372041149743106) ∷ (40, 4294967297) ∷ [], ([]) ∷ (97 ∷ []) ∷ [])
unfolding decode_pairs encode_with digits
row_s1_38 = (refl, refl)

row_s1_39 : Draws (codes "slots 1\nrequests 8\nopen a serve\nopen b fail=3 serve\nclient\nsend b 61\ncall a No.Op - att=01 retry=1\nclient\nexpire 1.2\nexpire 1.2\nclient\ncall b Echo.Echo - retry=1\ncall b,a Echo.Echo 6869 att=01\ncall a,b Sum.Bytes - retry=1\n") (2 ∷ 2 ∷ 1 ∷ 33 ∷ 1 ∷ 33 ∷ 3 ∷ 1 ∷ 3 ∷ 1 ∷ 1 ∷ 32 ∷ 3 ∷ 2 ∷ 1 ∷ 3 ∷ 3 ∷ 2 ∷ 1 ∷ 1 ∷ 3 ∷ 3 ∷ 32 ∷ 2 ∷ 1 ∷ 3 ∷ 1 ∷ 32 ∷ 3 ∷ 3 ∷ 1 ∷ 33 ∷ 3 ∷ 2 ∷ 3 ∷ 3 ∷ 3 ∷ 2 ∷ 1 ∷ 1 ∷ 3 ∷ 2 ∷ 1 ∷ 3 ∷ 3 ∷ 1 ∷ 32 ∷ 1 ∷ 3 ∷ 33 ∷ 3 ∷ 32 ∷ 1 ∷ 3 ∷ 3 ∷ 3 ∷ 2 ∷ 2 ∷ 3 ∷ 3 ∷ 1 ∷ 2 ∷ 3 ∷ 33 ∷ 1 ∷ 33 ∷ 32 ∷ 2 ∷ 1 ∷ 1 ∷ 1 ∷ 1 ∷ 1 ∷ 1 ∷ 3 ∷ 1 ∷ 33 ∷ 1 ∷ 1 ∷ 1 ∷ 2 ∷ 1 ∷ 3 ∷ 1 ∷ 1 ∷ 3 ∷ 1 ∷ 3 ∷ 2 ∷ 3 ∷ 3 ∷ 33 ∷ 33 ∷ 1 ∷ 33 ∷ 2 ∷ 1 ∷ 33 ∷ 3 ∷ 3 ∷ 3 ∷ 32 ∷ 3 ∷ 2 ∷ 2 ∷ 33 ∷ 3 ∷ 3 ∷ 2 ∷ 32 ∷ 1 ∷ 33 ∷ 1 ∷ 3 ∷ 2 ∷ 2 ∷ 2 ∷ 1 ∷ 33 ∷ 33 ∷ 1 ∷ 3 ∷ 1 ∷ 33 ∷ 32 ∷ 1 ∷ 1 ∷ 2 ∷ 32 ∷ 1 ∷ 2 ∷ 1 ∷ 1 ∷ 1 ∷ 32 ∷ 2 ∷ 3 ∷ 1 ∷ 1 ∷ 32 ∷ 1 ∷ 33 ∷ 1 ∷ 3 ∷ 2 ∷ 1 ∷ 2 ∷ 32 ∷ 2 ∷ 1 ∷ 33 ∷ 33 ∷ 3 ∷ 2 ∷ 33 ∷ 2 ∷ 3 ∷ 1 ∷ 2 ∷ 33 ∷ []) (codes "T2" ∷ codes "T2" ∷ codes "S7" ∷ codes "S7" ∷ codes "S7" ∷ [] ∷ codes "S7" ∷ codes "I1" ∷ codes "S7" ∷ codes "K1" ∷ codes "I2" ∷ codes "S7" ∷ codes "S7" ∷ [] ∷ codes "T1" ∷ codes "I1" ∷ codes "I1" ∷ [] ∷ codes "A3" ∷ codes "S2" ∷ codes "K1" ∷ codes "I2" ∷ [] ∷ [] ∷ codes "T1" ∷ codes "T1" ∷ codes "A8" ∷ [] ∷ codes "A3" ∷ codes "S2" ∷ codes "C1" ∷ [] ∷ codes "T1" ∷ [] ∷ codes "A8" ∷ codes "C1" ∷ codes "C1" ∷ [] ∷ codes "M1" ∷ codes "C7" ∷ codes "M1" ∷ [] ∷ codes "C2" ∷ codes "C7" ∷ codes "C2" ∷ codes "S2" ∷ [] ∷ codes "L1" ∷ codes "C3" ∷ [] ∷ codes "A4" ∷ [] ∷ codes "M2" ∷ [] ∷ [] ∷ [] ∷ [] ∷ [] ∷ [] ∷ [] ∷ codes "A8" ∷ [] ∷ [] ∷ [] ∷ codes "W1" ∷ [] ∷ [] ∷ [] ∷ codes "A8" ∷ codes "W1" ∷ codes "P1" ∷ codes "C8" ∷ codes "L2" ∷ codes "C4" ∷ [] ∷ codes "L1" ∷ [] ∷ codes "C5" ∷ codes "C6" ∷ codes "M2" ∷ [] ∷ codes "A8" ∷ [] ∷ codes "W1" ∷ codes "P1" ∷ [] ∷ codes "C8" ∷ [] ∷ [] ∷ [] ∷ [] ∷ [] ∷ [] ∷ codes "L2" ∷ [] ∷ [] ∷ codes "C4" ∷ [] ∷ [] ∷ [] ∷ [] ∷ codes "R1" ∷ [] ∷ [] ∷ [] ∷ [] ∷ [] ∷ [] ∷ [] ∷ codes "I7" ∷ codes "A4" ∷ [] ∷ [] ∷ [] ∷ [] ∷ [] ∷ [] ∷ [] ∷ [] ∷ [] ∷ [] ∷ [] ∷ [] ∷ [] ∷ codes "I3" ∷ [] ∷ [] ∷ [] ∷ codes "K2" ∷ [] ∷ [] ∷ [] ∷ [] ∷ [] ∷ codes "I6" ∷ [] ∷ [] ∷ [] ∷ [] ∷ codes "I8" ∷ [] ∷ [] ∷ [] ∷ [] ∷ [] ∷ [] ∷ [] ∷ codes "I7" ∷ [] ∷ [] ∷ [] ∷ [] ∷ [] ∷ [] ∷ [] ∷ [] ∷ [] ∷ [] ∷ [] ∷ [] ∷ []) (Some (Opened 0 0 0) ∷ Some (SlotsFull) ∷ Some (Unopened) ∷ Some (Peer 1 (pos 1001)) ∷ Some (NotBegun) ∷ Some (NotBegun) ∷ Some (Unopened) ∷ Some (Unopened) ∷ Some (Answered 4294967297 (0 ∷ 0 ∷ 0 ∷ 0 ∷ 0 ∷ 0 ∷ 0 ∷ 0 ∷ []) []) ∷ [], (24, 1) ∷ (64, 2) ∷ [], (80 ∷ 82 ∷ 80 ∷ 67 ∷ 0 ∷ 0 ∷ 0 ∷ 15 ∷ 0 ∷ 0 ∷ 0 ∷ 14 ∷ 10 ∷ 8 ∷ 10 ∷ 2 ∷ 78 ∷ 111 ∷ 18 ∷ 2 ∷ 79 ∷ 112 ∷ 32 ∷ 2 ∷ 40 ∷ 1 ∷ 1 ∷ 80 ∷ 82 ∷ 80 ∷ 67 ∷ 0 ∷ 0 ∷ 0 ∷ 20 ∷ 0 ∷ 0 ∷ 0 ∷ 20 ∷ 10 ∷ 12 ∷ 10 ∷ 3 ∷ 83 ∷ 117 ∷ 109 ∷ 18 ∷ 5 ∷ 66 ∷ 121 ∷ 116 ∷ 101 ∷ 115 ∷ 32 ∷ 130 ∷ 128 ∷ 128 ∷ 128 ∷ 16 ∷ []) ∷ ([]) ∷ [])
unfolding decode_pairs encode_with digits
row_s1_39 = (refl, refl)
