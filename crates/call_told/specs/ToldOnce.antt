-- How often it is told that a call ended: once at most, over all that is told in a run.
use Rattle.std.specs.Prelude.{ℕ, ◌<◌, ◌≤◌, List, Option, Some, None}
use Rattle.sock_words.specs.declared.outcome.Outcome.{Outcome}
use Rattle.sock_words.specs.declared.outcome.Outcome.TheVariants.{Answered, Peer, CallFailed}
use Rattle.corr_core.specs.IdSlotLaw.{only}
use Rattle.call_deeds.specs.Below.RpcClient.Told.{Told}
use Rattle.sock_words.specs.PackedWords.{id_slot}
use Rattle.sock_words.specs.Totals.{total}

-- 1 where the outcome is the end of the call with this id, else 0
abbrev pub ends_of : ℕ → Outcome → ℕ
ends_of id (Answered ended payload attachment) = only id ended
ends_of id (Peer ended code) = only id ended
ends_of id (CallFailed ended code) = only id ended
ends_of id _ = 0

-- how often the end of that call is told
abbrev pub told_ends : ℕ → List Told → ℕ
told_ends id told = total (λ (x : Told). ends_of id x.outcome) told

-- over all that tell of calls, the end of a call whose id is in one of so many slots is told once at most
abbrev pub ToldOnce : ℕ → List (List Told) → Type 0
ToldOnce slots tellers = (id : ℕ) → id_slot id < slots → total (told_ends id) tellers ≤ 1

-- 1 where an operation has an outcome, which is the end of that call
abbrev pub shows : ℕ → Option Outcome → ℕ
shows id None = 0
shows id (Some outcome) = ends_of id outcome

-- of all operations one at most has the end of a call, whose id is in one of so many slots, as its outcome
abbrev pub ShownOnce : ℕ → List (Option Outcome) → Type 0
ShownOnce slots outcomes = (id : ℕ) → id_slot id < slots → total (shows id) outcomes ≤ 1
