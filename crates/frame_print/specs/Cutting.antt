-- What printing the frames that are whole leaves of the bytes that a cutter held, and what printing a rest leaves.
use Rattle.std.specs.Prelude.{ℕ, ◌≡◌, List, ◌++◌, length, flat_map, Option, Some, None, Result, Ok, Err}
use Rattle.std.specs.Io.KnownBytes.{Appends}
use Rattle.brpc_model.specs.Frame.{Frame, Judged, NoneYet, Faulty, judged}
use Rattle.brpc_model.specs.Frame as model
use Rattle.brpc_model.specs.FrameStream.{Rest}
use Rattle.brpc_model.specs.FramesText.{frame_line, ending_line}
use Rattle.sock_io.specs.FaultCauses.{Rose}
use Rattle.sock_io.specs.SourceAndSinkState.{SinkState}
use Rattle.prpc_frame.specs.StreamCuts.{Cut}
use Rattle.prpc_frame.specs.FrameMeaning.{IsFault}
use Rattle.sock_io.specs.PartWrittenToSink.{WrotePart}
use Rattle.frame_print.specs.declared.print.Met.{Met}
use Rattle.frame_print.specs.declared.print.StreamEnd.{StreamEnd}
use Rattle.frame_print.specs.declared.print.StreamEnd.TheVariants as end_
use Rattle.frame_print.specs.declared.print.PrintFault.{PrintFault}
use Rattle.frame_print.specs.declared.print.PrintFault.TheVariants as fault_

-- and their lines were written
pub record CutPrinted (old : List ℕ) (before : Option (List ℕ)) (new : List ℕ) (now : Option (List ℕ)) : Type 0 where
  pub frames : List Frame
  pub cut : Cut old frames new
  pub wrote : Appends before now (flat_map frame_line frames)

-- their lines were written up to those that wait
pub record CutGathered (old : List ℕ) (before : Option (List ℕ)) (new : List ℕ) (now : Option (List ℕ)) (held : List ℕ) : Type 0 where
  pub frames : List Frame
  pub cut : Cut old frames new
  pub done : List ℕ
  pub wrote : Appends before now done
  pub split : done ++ held ≡ flat_map frame_line frames

-- the sink failed in the line of one of the frames
pub record CutStopped (old : List ℕ) (before : SinkState) (new : List ℕ) (now : SinkState) : Type 0 where
  pub frames : List Frame
  pub cut : Cut old frames new
  pub front : WrotePart before.contents now.contents (flat_map frame_line frames)
  pub rose : Rose before.faults now.faults

-- the frames that are whole were printed; then no frame is whole, or there is a fault, or printing stopped
abbrev pub CutsWhole : List ℕ → SinkState → List ℕ → SinkState → Result (Option Met) PrintFault → Type 0
CutsWhole old before new now (Ok None) = CutPrinted old before.contents new now.contents × (judged new ≡ NoneYet) × (now.faults ≡ before.faults)
CutsWhole old before new now (Ok (Some met)) = CutPrinted old before.contents new now.contents × IsFault (judged new) met.fault × (now.faults ≡ before.faults) × (met.len ≡ length new)
CutsWhole old before new now (Err fault_.Sink) = CutStopped old before new now
CutsWhole old before new now (Err fault_.NoMemory) = CutPrinted old before.contents new now.contents
CutsWhole old before new now (Err other) = ⊥

-- the sink failed, and so the bytes end that came
abbrev pub JudgesAs : Judged → Result StreamEnd PrintFault → Type 0
JudgesAs j (Ok end_.Rest) = ⊥
JudgesAs j (Ok end_.Fault) = (fault : model.FrameFault) × (j ≡ Faulty fault)
JudgesAs j (Err fault_.Sink) = j ≡ NoneYet
JudgesAs j (Err fault_.NoMemory) = Unit {0}
JudgesAs j (Err other) = ⊥

-- the frames that are whole were passed over, and what is behind them was judged
pub record Judges (old new : List ℕ) (result : Result StreamEnd PrintFault) : Type 0 where
  pub frames : List Frame
  pub cut : Cut old frames new
  pub judges : JudgesAs (judged new) result

-- how it ends where printing stopped for this reason
abbrev pub EndsStopped : List ℕ → List ℕ → PrintFault → Result StreamEnd PrintFault → Type 0
EndsStopped old new fault_.Sink result = Judges old new result
EndsStopped old new other result = result ≡ Err other

-- the line of a rest of so many bytes was written, or the sink failed behind a beginning of it
abbrev pub RestPrinted : SinkState → SinkState → ℕ → Result StreamEnd PrintFault → Type 0
RestPrinted before now len (Ok end_.Rest) = Appends before.contents now.contents (ending_line (Rest len)) × (now.faults ≡ before.faults)
RestPrinted before now len (Ok end_.Fault) = ⊥
RestPrinted before now len (Err fault_.Sink) = WrotePart before.contents now.contents (ending_line (Rest len)) × Rose before.faults now.faults
RestPrinted before now len (Err other) = ⊥
