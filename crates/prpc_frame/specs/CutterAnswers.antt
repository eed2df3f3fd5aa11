-- What the calls of a cutter answer, by how the bytes that it holds are judged.
use Rattle.std.specs.Prelude.{◌≡◌, ℕ, Bool, true, false, ◌+◌, ◌≤◌, ◌⊎◌, List, ◌++◌, length, drop, Option, Some, None, Result, Ok, Err}
use Rattle.rpc_meta.specs.brpc_model.specs.Frame.{Judged, NoneYet, Faulty, Begins, judged}
use Rattle.rpc_meta.specs.brpc_model.specs.Frame as model
use Rattle.prpc_frame.specs.FrameMeaning.{frame_of, IsFault}
use Rattle.prpc_frame.specs.declared.frame.Frame.{Frame}
use Rattle.prpc_frame.specs.declared.fault.NextFault.{NextFault}
use Rattle.prpc_frame.specs.declared.fault.NextFault.TheVariants as next

-- the frame that the bytes begin with was cut off
pub record Cuts (j : Judged) (old : List ℕ) (f : model.Frame) (new : List ℕ) : Type 0 where
  pub body : ℕ
  pub means : j ≡ Begins f body
  pub there : 12 + body ≤ length old
  pub rest : new ≡ drop (12 + body) old

-- none where there is none yet, the frame with which the bytes begin, or their fault; only want of memory is free
abbrev pub Answers : Judged → List ℕ → Result (Option Frame) NextFault → List ℕ → Type 0
Answers j old (Ok None) new = (j ≡ NoneYet) × (new ≡ old)
Answers j old (Ok (Some f)) new = Cuts j old (frame_of f) new
Answers j old (Err (next.Frame fault)) new = IsFault j fault × (new ≡ old)
Answers j old (Err next.NoMemory) new = new ≡ old

-- the fault is answered
abbrev pub tells_fault : Result (Option Frame) NextFault → Bool
tells_fault (Ok there) = false
tells_fault (Err (next.Frame fault)) = true
tells_fault (Err next.NoMemory) = false

-- these bytes have a fault
abbrev pub IsFaulty : Judged → Type 0
IsFaulty (Faulty fault) = Unit {0}
IsFaulty other = ⊥

-- the piece was added, or thrown away since the bytes before it have a fault
abbrev pub Fed : List ℕ → List ℕ → List ℕ → Type 0
Fed old piece new = (new ≡ old ++ piece) ⊎ (IsFaulty (judged old) × (new ≡ old))
