use Rattle.ref_core.proofs.SlotKeptRules.{adds}
use Rattle.ref_core.proofs.steps.add_ref.Goals as goal

pub returns-clause-keeps : goal.returns-clause-keeps
returns-clause-keeps c i is_life = adds i c.args.found c.ranges.found.fits c.requires is_life
