use Rattle.ref_core.proofs.SlotKeptRules.{frees}
use Rattle.ref_core.proofs.steps.free_slot.Goals as goal

pub returns-clause-keeps : goal.returns-clause-keeps
returns-clause-keeps c i = frees i c.args.found
