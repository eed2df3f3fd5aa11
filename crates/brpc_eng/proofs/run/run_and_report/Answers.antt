use Rattle.brpc_eng.proofs.OneFittingReport.{ran_reported}
use Rattle.brpc_eng.proofs.run.run_and_report.Goals as goal

-- the same bytes are read as the script
pub run_script-requires-clause-script : goal.run_script-requires-clause-script
run_script-requires-clause-script g c κs within = (c.requires.short.0, c.requires.short.1)

pub returns-in-Ok-clause-ran : goal.returns-in-Ok-clause-ran
returns-in-Ok-clause-ran g c =
    ran_reported _ c.requires.short.0 c.args.script c.in-Ok.text.items _ _ _ _ c.requires.short.1 c.requires.short.2 c.in-Ok.ensures.text c.deref.ensures.value c.write_report.ensures

pub returns-in-Ok-clause-opened : goal.returns-in-Ok-clause-opened
returns-in-Ok-clause-opened g c = record { front = c.in-Ok.ensures.front; whole = λ written. c.in-Ok.ensures.asked; given_back = c.in-Ok.ensures.given_back; numbered = c.in-Ok.ensures.numbered }
