-- What became of an operation, in the words of a report.
use Rattle.std.specs.Prelude.{ℕ, List, ◌++◌, codes, decimal}
use Rattle.std.specs.Fmt.{signed_decimal}
use Rattle.sock_words.specs.declared.outcome.Outcome.{Outcome}
use Rattle.sock_words.specs.declared.outcome.Outcome.TheVariants.{Opened, SlotsFull, Unopened, Gone, Placed, Dropped, Full, Answered, Peer, CallFailed, Held, Freed, Kept, NotHeld, Failed, Already, Expired, Queued, Late, Crowded, Joined, NotBegun}
use Rattle.sock_words.specs.PrintedWords.{word, hex_text, word_text}

-- an outcome in words
abbrev pub outcome_text : Outcome → List ℕ
outcome_text (Opened slot version link) = codes "open" ++ word (decimal slot) ++ word (decimal version) ++ word (decimal link)
outcome_text SlotsFull = codes "slots full"
outcome_text Unopened = codes "unopened"
outcome_text (Gone found) = codes "gone" ++ word (word_text found.0)
outcome_text (Placed link position) = codes "placed" ++ word (decimal link) ++ word (decimal position)
outcome_text (Dropped link position) = codes "dropped" ++ word (decimal link) ++ word (decimal position)
outcome_text Full = codes "full"
outcome_text (Answered id payload attachment) = codes "call" ++ word (decimal id) ++ codes " answered" ++ word (hex_text payload) ++ word (hex_text attachment)
outcome_text (Peer id code) = codes "call" ++ word (decimal id) ++ codes " peer" ++ word (signed_decimal code)
outcome_text (CallFailed id code) = codes "call" ++ word (decimal id) ++ codes " failed" ++ word (decimal code)
outcome_text Held = codes "held"
outcome_text Freed = codes "freed"
outcome_text Kept = codes "kept"
outcome_text NotHeld = codes "not held"
outcome_text Failed = codes "failed"
outcome_text (Already found) = codes "already" ++ word (word_text found.0)
outcome_text Expired = codes "expired"
outcome_text Queued = codes "queued"
outcome_text Late = codes "late"
outcome_text (Crowded first second) = codes "crowded" ++ word (decimal first) ++ word (decimal second)
outcome_text Joined = codes "joined"
outcome_text NotBegun = codes "not begun"
