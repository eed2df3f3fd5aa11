use Rattle.std.proofs.Common.{rules}
use Rattle.loop_link.proofs.LinkOffersStay.{new_offer}
use Rattle.loop_link.proofs.loop_linker.LoopLinkerLinker.open.Goals as goal

pub returns-clause-served : goal.returns-clause-served
returns-clause-served c = new_offer c.args.spec.now c.new.result (search rules)
