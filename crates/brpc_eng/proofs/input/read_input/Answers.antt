use Rattle.std.proofs.Common.{◌∙◌, ap, ap₂, sym, Err}
use Rattle.brpc_eng.proofs.PiecesTakeBytes.{has_pieces}
use Rattle.brpc_eng.proofs.Replays.{came_unread, read_as, read_few}
use Rattle.brpc_eng.proofs.input.read_input.Goals as goal

pub returns-in-Err-clause-came : goal.returns-in-Err-clause-came
returns-in-Err-clause-came g c = came_unread _ _ c.in-Err.ensures.came.0 c.in-Err.fault c.in-Err.ensures.came.1

pub returns-in-Ok-read_script-clause-came : goal.returns-in-Ok-read_script-clause-came
returns-in-Ok-read_script-clause-came g c =
    let whole = c.in-Ok.ensures.came.1 in
    record { bytes = c.in-Ok.ensures.came.0; came = whole.came; is = read_as _ _ _ c.deref.result.now c.in-Ok.bytes _ whole c.deref.ensures.value c.in-Ok-read_script.ensures.script }

pub returns-in-Ok-read_script-clause-short : goal.returns-in-Ok-read_script-clause-short
returns-in-Ok-read_script-clause-short g c = (c.deref.result.now, c.in-Ok-read_script.ensures.script, read_few _ _ c.in-Ok.ensures.came.0 c.deref.result.now c.in-Ok.bytes c.in-Ok.ensures.came.1 c.deref.ensures.value)

pub returns-in-Ok-read_script-clause-pieces : goal.returns-in-Ok-read_script-clause-pieces
returns-in-Ok-read_script-clause-pieces g c = has_pieces c.deref.result.now _ c.in-Ok-read_script.ensures.script

pub returns-in-Err-Fault-clause-came : goal.returns-in-Err-Fault-clause-came
returns-in-Err-Fault-clause-came g c =
    let whole = c.in-Ok.ensures.came.1 in
    let says = c.read_script.ensures.fault c.in-Err-Fault.line c.in-Err-Fault.kind (c.in-Err-Fault.is ∙ ap (λ x. Err x) c.in-Err-Fault.field-0-is) ∙ ap₂ (λ a b. Err (a, b)) (sym c.in-Err-Fault.line-is) (sym c.in-Err-Fault.kind-is) in
    record { bytes = c.in-Ok.ensures.came.0; came = whole.came; is = read_as _ _ _ c.deref.result.now c.in-Ok.bytes _ whole c.deref.ensures.value says }
