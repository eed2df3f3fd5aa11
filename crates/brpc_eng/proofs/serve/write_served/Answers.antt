use Rattle.std.proofs.Common.{◌≡◌, ◌∙◌, append_assoc, string_bytes}
use Rattle.brpc_eng.specs.ProgramAnswers.{served_text}
use Rattle.brpc_eng.proofs.ServeCommandEnding.{served_written}
use Rattle.brpc_eng.proofs.serve.write_served.Goals as goal

pub returns-in-Ok : goal.returns-in-Ok
returns-in-Ok g c =
    let said : string_bytes c.in-Ok.text ≡ served_text c.args.connections c.args.frames = simp append_assoc c.in-Ok.ensures.ok in
    served_written _ c.args.connections c.args.frames _ c.as_bytes.result.now (c.as_bytes.ensures.value ∙ said) c.write_report.ensures
