use Rattle.ref_core.proofs.SlotKeptRules.{subs}
use Rattle.ref_core.proofs.steps.sub_ref.Goals as goal

pub returns-clause-keeps : goal.returns-clause-keeps
returns-clause-keeps c i = subs i c.args.found c.ranges.found.fits c.requires
