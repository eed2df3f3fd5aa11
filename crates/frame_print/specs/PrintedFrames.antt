-- What is left behind by printing the frames of a source's bytes, by how it ended.
use Rattle.std.specs.Prelude.{ℕ, ◌≡◌, ◌≢◌, ◌≤◌, ◌+◌, ◌⊎◌, List, length, take, flat_map, Option, Result, Ok, Err}
use Rattle.std.specs.Io.KnownBytes.{Appends, Consumes, IsAtEnd}
use Rattle.brpc_model.specs.FrameStream.{Ending, Rest, Fault, stream}
use Rattle.brpc_model.specs.FramesText.{frame_line, frames_text}
use Rattle.sock_io.specs.FaultCauses.{Rose}
use Rattle.sock_io.specs.SourceAndSinkState.{SourceState, SinkState}
use Rattle.sock_io.specs.PartWrittenToSink.{WrotePart}
use Rattle.frame_print.specs.declared.print.StreamEnd.{StreamEnd}
use Rattle.frame_print.specs.declared.print.StreamEnd.TheVariants as end_
use Rattle.frame_print.specs.declared.print.PrintFault.{PrintFault}
use Rattle.frame_print.specs.declared.print.PrintFault.TheVariants as fault_

-- the most bytes whose frames are printed
abbrev pub frames_limit : ℕ
frames_limit = 268435456

-- ## What a call finds at its source and its sink, and what it leaves there

-- a source or a sink before and after
pub record Side : Type 0 where
  -- what it has to give or what it has taken, where it tells
  pub before : Option (List ℕ)
  pub now : Option (List ℕ)
  -- its count of faults
  pub faults : ℕ
  pub faults_now : ℕ

pub record Edges : Type 0 where
  pub source : Side
  pub sink : Side

-- by what they tell of themselves
abbrev pub edges_over : SourceState → SourceState → SinkState → SinkState → Edges
edges_over source source_now sink sink_now = record {
  source = record { before = source.left; now = source_now.left; faults = source.faults; faults_now = source_now.faults };
  sink = record { before = sink.contents; now = sink_now.contents; faults = sink.faults; faults_now = sink_now.faults };
}

abbrev pub WroteAll : Edges → List ℕ → Type 0
WroteAll edges text = Appends edges.sink.before edges.sink.now text

-- a beginning of the text, since the sink failed
abbrev pub WroteSome : Edges → List ℕ → Type 0
WroteSome edges text = WrotePart edges.sink.before edges.sink.now text × Rose edges.sink.faults edges.sink.faults_now

-- ## The stream of the bytes that came

-- the lines of its frames
abbrev pub frame_lines : List ℕ → List ℕ
frame_lines bytes = flat_map frame_line (stream bytes).frames

-- the lines of its first n frames
abbrev pub first_lines : ℕ → List ℕ → List ℕ
first_lines n bytes = flat_map frame_line (take n (stream bytes).frames)

abbrev pub IsRest : Ending → Type 0
IsRest (Rest n) = Unit {0}
IsRest (Fault start fault) = ⊥

abbrev pub IsFaulty : Ending → Type 0
IsFaulty (Rest n) = ⊥
IsFaulty (Fault start fault) = Unit {0}

-- ## How it ended

-- the source is at its end, and so is the stream, in a rest; the whole text was written, and no write failed
pub record PrintedRest (edges : Edges) (bytes : List ℕ) : Type 0 where
  pub few : length bytes ≤ frames_limit
  pub end : IsAtEnd edges.source.now
  pub ending : IsRest (stream bytes).ending
  pub wrote : WroteAll edges (frames_text bytes)
  pub kept : edges.sink.faults_now ≡ edges.sink.faults

-- the stream has a fault; the whole text was written, or the sink failed behind a beginning of it
pub record PrintedFault (edges : Edges) (bytes : List ℕ) : Type 0 where
  pub few : length bytes ≤ frames_limit
  pub ending : IsFaulty (stream bytes).ending
  pub wrote : WroteAll edges (frames_text bytes) ⊎ WroteSome edges (frames_text bytes)

-- the source failed, by its count, behind bytes without a fault; the lines of all their frames were written
pub record SourceFailed (edges : Edges) (bytes : List ℕ) : Type 0 where
  pub few : length bytes ≤ frames_limit
  pub rose : Rose edges.source.faults edges.source.faults_now
  pub ending : IsRest (stream bytes).ending
  pub wrote : WroteAll edges (frame_lines bytes)

-- the sink failed in the line of a frame; or, at the end of the source, in the rest's line or before; the bytes have no fault
pub record SinkFailed (edges : Edges) (bytes : List ℕ) : Type 0 where
  pub few : length bytes ≤ frames_limit
  pub ending : IsRest (stream bytes).ending
  pub wrote : WroteSome edges (frame_lines bytes) ⊎ (IsAtEnd edges.source.now × WroteSome edges (frames_text bytes))

-- one byte more came than is printed; the others have no fault, and the lines of all their frames were written
pub record TooLong (edges : Edges) (bytes : List ℕ) : Type 0 where
  pub long : length bytes ≡ frames_limit + 1
  pub ending : IsRest (stream (take frames_limit bytes)).ending
  pub wrote : WroteAll edges (frame_lines (take frames_limit bytes))

-- memory ran out behind the lines of the first frames, or after the sink failed in the line of a frame
pub record NoMemory (edges : Edges) (bytes : List ℕ) : Type 0 where
  pub few : length bytes ≤ frames_limit
  pub wrote : ((frames : ℕ) × WroteAll edges (first_lines frames bytes)) ⊎ WroteSome edges (frame_lines bytes)

-- by what is answered
abbrev pub EndsAs : Edges → List ℕ → Result StreamEnd PrintFault → Type 0
EndsAs edges bytes (Ok end_.Rest) = PrintedRest edges bytes
EndsAs edges bytes (Ok end_.Fault) = PrintedFault edges bytes
EndsAs edges bytes (Err fault_.Source) = SourceFailed edges bytes
EndsAs edges bytes (Err fault_.Sink) = SinkFailed edges bytes
EndsAs edges bytes (Err fault_.TooLong) = TooLong edges bytes
EndsAs edges bytes (Err fault_.NoMemory) = NoMemory edges bytes

-- these bytes came, and it ended so; a read failed only where that is answered
pub record PrintsFrames (edges : Edges) (result : Result StreamEnd PrintFault) : Type 0 where
  pub bytes : List ℕ
  pub came : Consumes edges.source.before edges.source.now bytes
  pub ended : EndsAs edges bytes result
  pub reads : result ≢ Err fault_.Source → edges.source.faults_now ≡ edges.source.faults
