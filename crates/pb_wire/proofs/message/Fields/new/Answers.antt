use Rattle.std.proofs.Common.{◌≡◌, ◌↔◌, ◌-◌, ℕ, List, Ok, length, slice_range, subst, arith}
use Rattle.std.proofs.lemmas.List.{take_all}
use Rattle.brpc_model.specs.Wire.{Wire, Field, fields}
use Rattle.pb_wire.specs.Form.{IsMessage}
use Rattle.pb_wire.proofs.MessageFields.{message_is_read}
use Rattle.pb_wire.proofs.message.Fields.new.Goals as goal

whole : (bytes : List ℕ) → slice_range bytes 0 (length bytes) ≡ bytes
whole bytes = take_all (length bytes - 0) bytes (omega arith)

pub returns-clause-spelled : goal.returns-clause-spelled
returns-clause-spelled c = λ fs.
    let bytes = c.args.bytes.now in
    let P : List ℕ → Type 0 = λ l. ◌≡◌ {A = Wire (List Field)} (fields 0 (slice_range bytes 0 (length bytes))) (Ok fs) ↔ IsMessage 0 l fs in
    subst P (whole bytes) (message_is_read 0 (slice_range bytes 0 (length bytes)) fs)
