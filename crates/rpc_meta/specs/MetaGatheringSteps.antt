-- What the steps of gathering a meta answer, as the definitions of a meta say it.
use Rattle.std.specs.Prelude.{ℕ, fold, List, Option, unwrap_or, Result, Ok, Err}
use Rattle.pb_wire.specs.brpc_model.specs.Wire.{Wire, ◌>>=◌, Field, fields}
use Rattle.pb_wire.specs.brpc_model.specs.Meta.{part_of, parts}
use Rattle.pb_wire.specs.declared.fault.WireFault.{WireFault}
use Rattle.pb_wire.specs.WireCallAnswers.{fault_of}
use Rattle.rpc_meta.specs.Gathered.{Gathered, part_added}

-- what was gathered, or the fault
abbrev pub read_as : {P S : Type 0} → (P → S) → Result P WireFault → Wire S
read_as said (Ok parts) = Ok (said parts)
read_as said (Err fault) = Err (fault_of fault)

-- a message that begins at this place, behind what earlier ones had
abbrev pub message_after : {S : Type 0} → (S → Field → S) → S → Option S → ℕ → List ℕ → Wire S
message_after added none before at bytes = fields at bytes >>= (λ fs. Ok (fold added (unwrap_or before none) fs))

-- a field of a meta, behind what earlier ones had
abbrev pub part_after : Gathered → Field → Wire Gathered
part_after before f = part_of f.number f.value >>= (λ p. Ok (part_added before p))

-- the fields of a meta, behind what earlier ones had
abbrev pub gathered_after : Gathered → List ℕ → Wire Gathered
gathered_after before bytes = parts bytes >>= (λ ps. Ok (fold part_added before ps))
