-- What a cutter's answer says of the stream that it cuts, however the stream goes on behind what was fed.
use Rattle.std.specs.Prelude.{◌≡◌, ℕ, ◌+◌, ◌-◌, ◌<◌, List, [], ◌++◌, length, Option, Some, None, option_map, Result, Ok, Err}
use Rattle.rpc_meta.specs.brpc_model.specs.FrameStream.{Stream, Ending, Rest, Fault, with_frame, stream_from}
use Rattle.prpc_frame.specs.FrameMeaning.{frame_of, fault_of}
use Rattle.prpc_frame.specs.declared.frame.Frame.{Frame}
use Rattle.prpc_frame.specs.declared.fault.NextFault.{NextFault}
use Rattle.prpc_frame.specs.declared.fault.NextFault.TheVariants as next

-- a stream of no frame
abbrev pub ends : Ending → Stream
ends ending = record { frames = []; ending = ending }

-- with more bytes behind what is held the stream from this place on is: a rest so far; the frame, and the stream behind it; or the fault
abbrev pub Leads : ℕ → List ℕ → List ℕ → Result (Option Frame) NextFault → List ℕ → Type 0
Leads at more old (Ok None) new = stream_from at old ≡ ends (Rest (length old))
Leads at more old (Ok (Some f)) new = (length new < length old) × (stream_from at (old ++ more) ≡ with_frame (frame_of f) (stream_from (at + (length old - length new)) (new ++ more)))
Leads at more old (Err (next.Frame fault)) new = option_map (λ f. ends (Fault at f)) (fault_of fault) ≡ Some (stream_from at (old ++ more))
Leads at more old (Err next.NoMemory) new = Unit {0}
