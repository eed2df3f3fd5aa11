use Rattle.std.proofs.Common.{inl, ap, sym, ◌∙◌, Err, List, ℕ}
use Rattle.script_lang.specs.declared.error.ScriptError.{ScriptError}
use Rattle.frame_print.proofs.SuccessiveTextWriting.{as_text}
use Rattle.script_reasons.specs.ScriptFaultWords.{fault_text, told}
use Rattle.script_reasons.proofs.faults.tell_script.Goals as goal

pub returns-in-Err-Fault : goal.returns-in-Err-Fault
returns-in-Err-Fault g c =
    let found = c.in-Err-Fault.ensures.fault c.in-Err-Fault.line c.in-Err-Fault.kind (ap (λ (e : ScriptError). Err e) c.in-Err-Fault.field-0-is) in
    inl (as_text _ _ _ _ _ c.tell_fault.ensures
    (ap (λ (l : List ℕ). fault_text c.in-Err-Fault.line c.in-Err-Fault.kind l) c.line_at.ensures ∙ ap (told c.args.bytes.now) (sym found)))
