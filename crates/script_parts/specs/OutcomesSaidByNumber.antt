-- What clients told, put together by the numbers of the operations.
use Rattle.std.specs.Prelude.{List, [], ◌∷◌, slice_set, Option, Some}
use Rattle.sock_words.specs.declared.outcome.Outcome.{Outcome}
use Rattle.rpc_client.specs.declared.acting.Told.{Told}

-- behind what one client told
abbrev pub said_by : List (Option Outcome) → List Told → List (Option Outcome)
said_by said [] = said
said_by said (t ∷ ts) = said_by (slice_set said t.number (Some t.outcome)) ts

-- behind what each of them told
abbrev pub said_by_each : List (Option Outcome) → List (List Told) → List (Option Outcome)
said_by_each said [] = said
said_by_each said (ts ∷ tss) = said_by_each (said_by said ts) tss
