use Rattle.corr_core.specs.IdSlotWord.{parts}
use Rattle.corr_core.proofs.IdWordEvents.{ended, plain_ends}
use Rattle.corr_core.proofs.steps.destroy_id.Goals as goal

pub returns-clause-event : goal.returns-clause-event
returns-clause-event c two next up is who = ended who next (parts c.args.found) (parts c.args.value.0) is two up

pub returns-clause-once : goal.returns-clause-once
returns-clause-once c = plain_ends
