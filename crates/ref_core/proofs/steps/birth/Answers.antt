use Rattle.ref_core.proofs.SlotKeptRules.{bears}
use Rattle.ref_core.proofs.steps.birth.Goals as goal

pub returns-clause-keeps : goal.returns-clause-keeps
returns-clause-keeps c i k = bears i c.args.found c.ranges.found.fits c.requires k
