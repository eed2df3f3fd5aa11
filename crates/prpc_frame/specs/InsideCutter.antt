-- The fields of a `Cutter`.
use Rattle.std.specs.Prelude.{◌≡◌, ℕ, List, [], Option, Some, None, IfSome, is_some}
use Rattle.rpc_meta.specs.brpc_model.specs.Frame.{judged}
use Rattle.prpc_frame.specs.HeldByCutter.{Held}
use Rattle.prpc_frame.specs.FrameMeaning.{IsFault}
use Rattle.prpc_frame.specs.declared.fault.FrameFault.{FrameFault}
use Rattle.prpc_frame.specs.declared.cutter.Cutter.TheInside.{Inside}

-- the bytes in blocks, or those that had the fault
abbrev pub bytes_of : Option FrameFault → List ℕ → List ℕ → List ℕ
bytes_of None held faulty = held
bytes_of (Some fault) held faulty = faulty

abbrev pub seen : Option FrameFault → List ℕ → List ℕ → Held
seen fault held faulty = record { bytes = bytes_of fault held faulty; told = is_some fault }

abbrev pub held_view : Inside → Held
held_view c = seen c.fault c.held.items c.faulty.list

-- once there is a fault no bytes are in blocks, and it is that of those that were
abbrev pub Noted : Option FrameFault → List ℕ → List ℕ → Type 0
Noted fault held faulty = IfSome fault (λ fault. (held ≡ []) × IsFault (judged faulty) fault)

abbrev pub KeepsFault : Inside → Type 0
KeepsFault c = Noted c.fault c.held.items c.faulty.list
