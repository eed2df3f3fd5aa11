-- The frames that were met are those of the stream of the bytes that were taken.
use Rattle.std.proofs.Common.{◌≡◌, ℕ, List, length, map}
use Rattle.brpc_model.specs.Frame.{FrameFault, NoneYet, Faulty, judged}
use Rattle.brpc_model.specs.FrameStream.{Rest, Fault, stream}
use Rattle.prpc_frame.specs.FrameMeaning.{frame_of}
use Rattle.prpc_frame.proofs.StreamCuts.{frames_then, stream_rest, stream_fault}
use Rattle.rpc_reader.specs.ReaderBooks.{Books}
use Rattle.rpc_reader.specs.Met.{MetAll}

module _ (slots : ℕ) (bytes left : List ℕ) (b b' : Books) (m : MetAll slots bytes left b b') where
  pub met_rest : judged left ≡ NoneYet → stream bytes ≡ frames_then (map frame_of m.frames) (Rest (length left))
  met_rest e = stream_rest bytes left (map frame_of m.frames) m.cut e

  pub met_fault : (f : FrameFault) → judged left ≡ Faulty f → stream bytes ≡ frames_then (map frame_of m.frames) (Fault m.cut.size f)
  met_fault f e = stream_fault bytes left (map frame_of m.frames) m.cut f e
