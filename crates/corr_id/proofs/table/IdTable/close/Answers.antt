use Rattle.std.proofs.Common.{◌∙◌, subst}
use Rattle.std.specs.Mem.Slots.{slots_items}
use Rattle.atomic_table.specs.Table.{Final, Seen}
use Rattle.corr_core.specs.declared.marks.Plan.{Plan}
use Rattle.corr_id.specs.Ruled.{Ruled}
use Rattle.corr_id.proofs.IdCloseLoops.{closes}
use Rattle.corr_id.proofs.JoiningIdSeats.{free_tokens}
use Rattle.corr_id.proofs.table.IdTable.close.Goals as goal

pub returns-clause-lists : goal.returns-clause-lists
returns-clause-lists g c =
    let p = c.args.self.plan in let seat = c.join_all-seat.result in let ws = slots_items c.close_with-closed.result.words in let xs = slots_items c.close_with-closed.result.slots in
    let f = subst (λ (y : Plan). Final (Seen (Ruled y) seat.id seat.me.0) ws xs) c.args.self.planned c.close_with-closed.ensures.values.2 in let l = c.join_all-seat.ensures.lists in
    closes p seat.id seat.me.0 ws xs c.read_words.new.words.items _ _ f (l.2 ∙ c.requires.all) (free_tokens seat.me.0 c.join_all-seat.ensures.seat.2) l.0 l.1 c.read_words.ensures.words
