-- What a frame and its faults say, as the definition of a frame has them.
use Rattle.std.specs.Prelude.{◌≡◌, ℕ, List, Option, Some, option_map}
use Rattle.rpc_meta.specs.brpc_model.specs.Frame as model
use Rattle.rpc_meta.specs.brpc_model.specs.Meta as metas
use Rattle.rpc_meta.specs.MetaMeaning.{meaning}
use Rattle.rpc_meta.specs.Answer.{meta_fault}
use Rattle.prpc_frame.specs.declared.frame.Frame.{Frame}
use Rattle.prpc_frame.specs.declared.fault.FrameFault.{FrameFault}
use Rattle.prpc_frame.specs.declared.fault.FrameFault.TheVariants.{BadMagic, TooBig, MetaOver, Meta, AttachOver}

-- a frame: the meaning of its meta, and the bytes of its payload and its attachment
abbrev pub frame_of : Frame → model.Frame
frame_of f = record { meta = meaning f.meta; payload = f.payload.items; attachment = f.attachment.items }

-- a frame of a meta, a payload and an attachment
abbrev pub frame_with : metas.Meta → List ℕ → List ℕ → model.Frame
frame_with meta payload attachment = record { meta = meta; payload = payload; attachment = attachment }

-- a fault, or nothing for want of memory in the meta, which never comes
abbrev pub fault_of : FrameFault → Option model.FrameFault
fault_of (BadMagic at) = Some (model.BadMagic at)
fault_of (TooBig size) = Some (model.TooBig size)
fault_of (MetaOver meta body) = Some (model.MetaOver meta body)
fault_of (Meta fault) = option_map (λ f. model.BadMeta f) (meta_fault fault)
fault_of (AttachOver size room) = Some (model.AttachOver size room)

-- bytes that are judged so have this fault
abbrev pub IsFault : model.Judged → FrameFault → Type 0
IsFault j fault = option_map (λ f. model.Faulty f) (fault_of fault) ≡ Some j
