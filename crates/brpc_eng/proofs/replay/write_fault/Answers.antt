use Rattle.std.proofs.Common.{◌≡◌, ◌∙◌, append_assoc, string_bytes}
use Rattle.brpc_eng.specs.ProgramAnswers.{fault_text}
use Rattle.brpc_eng.proofs.Replays.{fault_written}
use Rattle.brpc_eng.proofs.replay.write_fault.Goals as goal

pub returns-in-Ok : goal.returns-in-Ok
returns-in-Ok g c =
    let said : string_bytes c.in-Ok.text ≡ fault_text c.args.line c.args.kind = simp append_assoc c.in-Ok.ensures.ok in
    fault_written _ c.args.line c.args.kind c.as_bytes.result.now (c.as_bytes.ensures.value ∙ said) c.write_answer.ensures
