use Rattle.ref_core.proofs.SlotKeptRules.{fails}
use Rattle.ref_core.proofs.steps.set_odd.Goals as goal

pub returns-clause-keeps : goal.returns-clause-keeps
returns-clause-keeps c i = fails i c.args.found c.ranges.found.fits
