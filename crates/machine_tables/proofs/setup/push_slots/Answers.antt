use Rattle.std.proofs.Common.{◌∙◌}
use Rattle.machine_steps.proofs.BegunTables.{slots_more}
use Rattle.machine_tables.proofs.setup.push_slots.Goals as goal

pub loop-preserved : goal.loop-preserved
loop-preserved c = c.in_ok-push_slot.ensures ∙ slots_more c.args.words.now.items c.loop.words.items c.args.first c.loop.counter c.loop.invariant
