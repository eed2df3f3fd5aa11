use Rattle.brpc_eng.proofs.Replays.{replays_read, replays_none}
use Rattle.brpc_eng.proofs.replay.replay.Goals as goal

pub returns-in-Ok-clause-replayed : goal.returns-in-Ok-clause-replayed
returns-in-Ok-clause-replayed g c = replays_read _ _ _ _ _ _ c.in-Ok.ensures.came c.run_and_report.ensures.opened c.run_and_report.ensures.ran

pub returns-in-Err-clause-replayed : goal.returns-in-Err-clause-replayed
returns-in-Err-clause-replayed g c = replays_none _ _ _ _ _ c.in-Err.fault c.in-Err.ensures.came c.in-Err.ensures.failed c.requires.unopened c.tell_fault.ensures.told
