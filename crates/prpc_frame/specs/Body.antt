-- What the body of a frame tells.
use Rattle.std.specs.Prelude.{◌≡◌, ℕ, ◌≤◌, ◌<◌, ℤ, pos, List, take, drop, Result, Ok, Err}
use Rattle.rpc_meta.specs.brpc_model.specs.Frame as model
use Rattle.rpc_meta.specs.brpc_model.specs.Frame.{body_judged}
use Rattle.rpc_meta.specs.brpc_model.specs.Meta.{read_meta}
use Rattle.rpc_meta.specs.MetaMeaning.{meaning}
use Rattle.rpc_meta.specs.declared.meta.RpcMeta.{RpcMeta}
use Rattle.prpc_frame.specs.FrameMeaning.{frame_of, IsFault}
use Rattle.prpc_frame.specs.Header.{inside_of}
use Rattle.prpc_frame.specs.declared.frame.Frame.{Frame}
use Rattle.prpc_frame.specs.declared.fault.FrameFault.{FrameFault}
use Rattle.prpc_frame.specs.declared.fault.FrameFault.TheVariants.{AttachOver}
use Rattle.prpc_frame.specs.declared.fault.NextFault as next
use Rattle.prpc_frame.specs.declared.fault.NextFault.TheVariants as next_

-- the meta that these bytes are, or its fault, whatever stands behind it
abbrev pub MetaIs : List ℕ → Result RpcMeta next.NextFault → Type 0
MetaIs bytes (Ok meta) = read_meta bytes ≡ Ok (meaning meta)
MetaIs bytes (Err (next_.Frame fault)) = (behind : List ℕ) (body : ℕ) → IsFault (body_judged (read_meta bytes) behind body) fault
MetaIs bytes (Err next_.NoMemory) = Unit {0}

-- the meta behind the header, or its fault, whatever stands behind it
abbrev pub MetaSays : List ℕ → ℕ → Result RpcMeta next.NextFault → Type 0
MetaSays bytes size result = MetaIs (take size (drop 12 bytes)) result

-- the size of an attachment that fits in the room, or the fault of one that is negative or doesn't
abbrev pub AttachmentSays : ℤ → ℕ → Result ℕ FrameFault → Type 0
AttachmentSays size room (Ok n) = (size ≡ pos n) × (n ≤ room)
AttachmentSays size room (Err fault) = (fault ≡ AttachOver size room) × ((n : ℕ) → size ≡ pos n → room < n)

-- the frame, or the fault of its meta or its attachment
abbrev pub BodySays : List ℕ → ℕ → ℕ → Result Frame next.NextFault → Type 0
BodySays bytes meta body (Ok f) = body_judged (read_meta (take meta (inside_of body bytes))) (drop meta (inside_of body bytes)) body ≡ model.Begins (frame_of f) body
BodySays bytes meta body (Err (next_.Frame fault)) = IsFault (body_judged (read_meta (take meta (inside_of body bytes))) (drop meta (inside_of body bytes)) body) fault
BodySays bytes meta body (Err next_.NoMemory) = Unit {0}
