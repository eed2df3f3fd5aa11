-- What the steps of reading a field answer, as the definitions of the wire form say it.
use Rattle.std.specs.Prelude.{ℕ, ◌-◌, List, Result, Ok, Err}
use Rattle.brpc_model.specs.Wire as wire
use Rattle.brpc_model.specs.Wire.{Wire, Front}
use Rattle.pb_wire.specs.declared.fault.WireFault.{WireFault}
use Rattle.pb_wire.specs.declared.values.Value.{Value}
use Rattle.pb_wire.specs.declared.values.Field.{Field}
use Rattle.pb_wire.specs.declared.values.WireType.{WireType}
use Rattle.pb_wire.specs.declared.values.WireType.TheVariants as type_
use Rattle.pb_wire.specs.WireCallAnswers.{fault_of, value_in, field_in}

-- the number of a wire type
abbrev pub type_number : WireType → ℕ
type_number type_.Varint = 0
type_number type_.Eight = 1
type_number type_.Span = 2
type_number type_.Four = 5

-- the parts of a key
abbrev pub key_of : Result (ℕ × WireType) WireFault → Wire (ℕ × ℕ)
key_of (Ok r) = Ok (r.0, type_number r.1)
key_of (Err fault) = Err (fault_of fault)

-- so many bytes from the front
abbrev pub bytes_front : ℕ → Result (List ℕ) WireFault → Wire (Front (List ℕ))
bytes_front n (Ok bytes) = Ok (record { value = bytes; size = n })
bytes_front n (Err fault) = Err (fault_of fault)

-- a value with the place behind it, read at this place
abbrev pub value_front : List ℕ → ℕ → Result (Value × ℕ) WireFault → Wire (Front wire.Value)
value_front bytes at (Ok r) = Ok (record { value = value_in bytes r.0; size = r.1 - at })
value_front bytes at (Err fault) = Err (fault_of fault)

-- a field with the place behind it, read at this place
abbrev pub field_front : List ℕ → ℕ → Result (Field × ℕ) WireFault → Wire (Front wire.Field)
field_front bytes at (Ok r) = Ok (record { value = field_in bytes r.0; size = r.1 - at })
field_front bytes at (Err fault) = Err (fault_of fault)
