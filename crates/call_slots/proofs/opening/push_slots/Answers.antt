use Rattle.std.proofs.Common.{◌∙◌}
use Rattle.call_slots.proofs.OpeningSlotWords.{slots_more}
use Rattle.call_slots.proofs.opening.push_slots.Goals as goal

pub loop-preserved : goal.loop-preserved
loop-preserved c = c.in_ok-push_slot.ensures ∙ slots_more c.args.words.now.items c.loop.words.items c.loop.counter c.loop.invariant
