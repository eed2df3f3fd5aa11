-- What a sink took of a text that was written to it.
use Rattle.std.specs.Prelude.{◌≡◌, ℕ, List, ◌++◌, Result, Ok, Err, OnOk, OnErr}
use Rattle.std.specs.Io.KnownBytes.{Appends}
use Rattle.sock_io.specs.FaultCauses.{Rose}
use Rattle.sock_io.specs.SourceAndSinkState.{SinkState}
use Rattle.sock_io.specs.PartWrittenToSink.{WrotePart}
use Rattle.sock_io.specs.declared.stream.Failed.{Failed}

-- the sink took the text whole; or it failed, by its count, behind a beginning of it
pub record Writes (before now : SinkState) (text : List ℕ) (result : Result (Unit {0}) Failed) : Type 0 where
  pub whole : OnOk result (Appends before.contents now.contents text)
  pub kept : OnOk result (now.faults ≡ before.faults)
  pub front : OnErr result (WrotePart before.contents now.contents text)
  pub failed : OnErr result (Rose before.faults now.faults)

-- lines that wait, and how often they found no room
pub record LinesState : Type 0 where
  pub bytes : List ℕ
  pub faults : ℕ

-- the text waits behind what waited, of which a part was written; or the sink failed, by its count, behind a beginning of
-- them
abbrev pub Gathers : (before now : SinkState) (held held_now text : List ℕ) → Result (Unit {0}) Failed → Type 0
Gathers before now held held_now text (Ok done) = (part : List ℕ) × Appends before.contents now.contents part × (part ++ held_now ≡ held ++ text) × (now.faults ≡ before.faults)
Gathers before now held held_now text (Err failed) = WrotePart before.contents now.contents (held ++ text) × Rose before.faults now.faults
