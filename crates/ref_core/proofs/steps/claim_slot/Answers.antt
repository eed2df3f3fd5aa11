use Rattle.ref_core.proofs.SlotKeptRules.{claims}
use Rattle.ref_core.proofs.steps.claim_slot.Goals as goal

-- src/steps.rt
pub returns-clause-keeps : goal.returns-clause-keeps
returns-clause-keeps c i = claims i c.args.found
