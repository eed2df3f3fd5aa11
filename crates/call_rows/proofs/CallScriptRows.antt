-- Rows of scripts with calls, computed: the outcomes, and the place words by which the orders are told.
use Rattle.std.specs.Prelude.{◌≡◌, ℕ, List, [], ◌∷◌, refl, codes, Some, None, Result, Ok, Err, pos, Option}
use Rattle.hex.specs.Hex.{decode_pairs, encode_with}
use Rattle.std.specs.Fmt.{digits}
use Rattle.sock_words.specs.declared.outcome.Outcome.{Outcome}
use Rattle.sock_words.specs.declared.outcome.Outcome.TheVariants.{Opened, Answered, CallFailed, Expired, Queued, Crowded, Joined, Peer, Failed, Full}
use Rattle.brpc_model.specs.Items.{Item}
use Rattle.brpc_model.specs.Script.{script_of}
use Rattle.call_rows.specs.Driven.{final}

abbrev got : {A B : Type 0} → A → Result A B → A
got none (Ok a) = a
got none (Err b) = none

abbrev items_of : List ℕ → List Item
items_of text = got [] (script_of text)

abbrev outcomes_of : List ℕ → List (Option Outcome)
outcomes_of text = (final (items_of text)).outcomes

row_r8_1 : outcomes_of (codes "slots 2\nrequests 4\nopen a\nclient\ncall a Echo.Echo 6869\n") ≡ Some (Opened 0 0 0) ∷ Some (CallFailed 1 1014) ∷ []
unfolding decode_pairs encode_with digits
row_r8_1 = refl

row_r8_2 : outcomes_of (codes "slots 2\nrequests 4\nopen a\nclient\ncall a Echo.Echo 6869\nexpire 1.1\n") ≡ Some (Opened 0 0 0) ∷ Some (CallFailed 1 1008) ∷ Some Expired ∷ []
unfolding decode_pairs encode_with digits
row_r8_2 = refl

row_r8_3 : outcomes_of (codes "slots 2\nrequests 4\nopen a fail=1\nopen b\nclient\ncall a,b Echo.Echo 6869 retry=1\n") ≡ Some (Opened 0 0 0) ∷ Some (Opened 1 0 1) ∷ Some (CallFailed 1 1014) ∷ []
unfolding decode_pairs encode_with digits
row_r8_3 = refl

row_r8_4 : outcomes_of (codes "slots 2\nrequests 4\nopen a\nclient\ncall a Echo.Echo 6869\nclient\nexpire 1.1\nclient\nexpire 1.1\nclient\nexpire 1.1\nclient\nexpire 1.1\nsched\nto 1 C4\nto 2 I4\nto 3 I4\nto 4 I4\ntick 5 10\n") ≡ Some (Opened 0 0 0) ∷ Some (CallFailed 1 1008) ∷ Some Expired ∷ Some Queued ∷ Some Queued ∷ Some (Crowded 1008 1008) ∷ []
unfolding decode_pairs encode_with digits
row_r8_4 = refl

row_r2 : outcomes_of (codes "slots 2\nrequests 4\nopen a serve\nclient\ncall a Echo.Echo 6869\n") ≡ Some (Opened 0 0 0) ∷ Some (Answered 1 (104 ∷ 105 ∷ []) []) ∷ []
unfolding decode_pairs encode_with digits
row_r2 = refl

row_r12 : outcomes_of (codes "slots 2\nrequests 4\nopen a serve\nclient\ncall a Echo.Echo 6869\nclient\nexpire 1.1\nsched\nto 1 C4\nto 2 I6\n") ≡ Some (Opened 0 0 0) ∷ Some (CallFailed 1 1008) ∷ Some Expired ∷ []
unfolding decode_pairs encode_with digits
row_r12 = refl

row_r13 : outcomes_of (codes "slots 2\nrequests 4\nopen a serve fail=1\nopen b serve\nclient\ncall a,b Echo.Echo 6869 retry=1\n") ≡ Some (Opened 0 0 0) ∷ Some (Opened 1 0 1) ∷ Some (Answered 1 (104 ∷ 105 ∷ []) []) ∷ []
unfolding decode_pairs encode_with digits
row_r13 = refl

row_r14 : outcomes_of (codes "slots 2\nrequests 4\nopen a serve end=0\nclient\ncall a Echo.Echo 6869\nsched\nto 1 C4\n") ≡ Some (Opened 0 0 0) ∷ Some (CallFailed 1 1014) ∷ []
unfolding decode_pairs encode_with digits
row_r14 = refl

row_r23 : outcomes_of (codes "slots 2\nrequests 4\nopen a serve\nclient\ncall a Sum.Bytes 6869\njoin 1.1\ncall a Echo.Reverse 6869\njoin 1.3\ncall a No.Op -\n") ≡ Some (Opened 0 0 0) ∷ Some (Answered 1 (0 ∷ 0 ∷ 0 ∷ 0 ∷ 0 ∷ 0 ∷ 0 ∷ 209 ∷ []) []) ∷ Some Joined ∷ Some (Answered 3 (105 ∷ 104 ∷ []) []) ∷ Some Joined ∷ Some (Peer 5 (pos 1001)) ∷ []
unfolding decode_pairs encode_with digits
row_r23 = refl

row_r7 : outcomes_of (codes "slots 2\nrequests 4\nopen a piece=3 fail=2\nclient\nsend a 61616161\nclient\nsend a 62626262\nsched\nto 1 C2\nto 2 C3\n") ≡ Some (Opened 0 0 0) ∷ None ∷ None ∷ []
unfolding decode_pairs encode_with digits
row_r7 = refl

row_r21 : outcomes_of (codes "slots 2\nrequests 4\nopen a again=2 piece=1\nclient\nsend a 616263\n") ≡ Some (Opened 0 0 0) ∷ None ∷ []
unfolding decode_pairs encode_with digits
row_r21 = refl

-- the one look more of whoever found the socket failed shows by this schedule: client 3 finds the one request taken
row_looks_again : outcomes_of (codes "slots 2\nrequests 1\nopen a\nopen b\nclient\nsend a 61\nclient\nfail a 1500\nclient\nsend b 62\nsched\nto 1 C2\nto 2 A5\ntick 1 7\ntick 3 30\n") ≡ Some (Opened 0 0 0) ∷ Some (Opened 1 0 1) ∷ None ∷ Some Failed ∷ Some Full ∷ []
unfolding decode_pairs encode_with digits
row_looks_again = refl
