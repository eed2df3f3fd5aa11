use Rattle.ref_core.proofs.SlotKeptRules.{looks}
use Rattle.ref_core.proofs.steps.look_word.Goals as goal

pub returns-clause-keeps : goal.returns-clause-keeps
returns-clause-keeps c i = looks i c.args.found c.ranges.found.fits
