-- What the calls answer, as the definitions of the wire form say it.
use Rattle.std.specs.Prelude.{ℕ, ◌-◌, ◌≤◌, List, Result, Ok, Err, Option, Some, None, slice_range}
use Rattle.brpc_model.specs.Wire as wire
use Rattle.brpc_model.specs.Wire.{Wire, Front}
use Rattle.pb_wire.specs.declared.fault.WireFault.{WireFault}
use Rattle.pb_wire.specs.declared.fault.WireFault.TheVariants.{Truncated, LongVarint, BadKey, Group}
use Rattle.pb_wire.specs.declared.values.Value.{Value}
use Rattle.pb_wire.specs.declared.values.Value.TheVariants.{Varint, Eight, Span, Four}
use Rattle.pb_wire.specs.declared.values.Field.{Field}

-- a fault
abbrev pub fault_of : WireFault → wire.WireFault
fault_of (Truncated at) = wire.Truncated at
fault_of (LongVarint at) = wire.LongVarint at
fault_of (BadKey at) = wire.BadKey at
fault_of (Group at) = wire.Group at

-- a varint with the place behind it, read at this place
abbrev pub varint_front : ℕ → Result (ℕ × ℕ) WireFault → Wire (Front ℕ)
varint_front at (Ok r) = Ok (record { value = r.0; size = r.1 - at })
varint_front at (Err fault) = Err (fault_of fault)

-- a value whose places are in these bytes
abbrev pub value_in : List ℕ → Value → wire.Value
value_in bytes (Varint n) = wire.Varint n
value_in bytes (Eight n) = wire.Eight n
value_in bytes (Span from to) = wire.Span from (slice_range bytes from to)
value_in bytes (Four n) = wire.Four n

-- a field whose places are in these bytes
abbrev pub field_in : List ℕ → Field → wire.Field
field_in bytes f = record { number = f.number; value = value_in bytes f.value }

-- the next field of these bytes, or none
abbrev pub answer_in : List ℕ → Result (Option Field) WireFault → Wire (Option wire.Field)
answer_in bytes (Ok None) = Ok None
answer_in bytes (Ok (Some f)) = Ok (Some (field_in bytes f))
answer_in bytes (Err fault) = Err (fault_of fault)

-- a span stands before this place
abbrev pub IsBefore : ℕ → Value → Type 0
IsBefore place (Span from to) = (from ≤ to) × (to ≤ place)
IsBefore place other = Unit {0}
