use Rattle.brpc_eng.proofs.Replays.{reads_still}
use Rattle.brpc_eng.proofs.frames.frames.Goals as goal

pub returns-clause-printed : goal.returns-clause-printed
returns-clause-printed g c = record { ended = c.print_frames.result; numbered = c.status_of.ensures; printed = c.print_frames.ensures }

pub returns-clause-source : goal.returns-clause-source
returns-clause-source g c = reads_still _ c.print_frames.result _ c.status_of.ensures c.print_frames.ensures
