use Rattle.std.proofs.Common.{length, ap, ◌∙◌}
use Rattle.std.specs.Mem.Slots.{slots_items}
use Rattle.sock_table.proofs.CloseLoopLasts.{are_links, closes, ways_back}
use Rattle.sock_table.proofs.table.SockTable.close_in.Goals as goal

pub take_outs-requires-clause-links : goal.take_outs-requires-clause-links
take_outs-requires-clause-links g c = are_links c.args.self.rule.table.shared.key.ways.list c.args.self.rule.table.shared.key.plan c.args.self.rule.plan c.join_all-seat.result.id c.join_all-seat.result.me.0 (slots_items c.close_with-table.result.words) (slots_items c.close_with-table.result.slots)
    c.args.self.rule.planned c.close_with-table.ensures.values.2 (c.join_all-seat.ensures.share ∙ c.requires.all) c.join_all-seat.ensures.seat.done

pub returns-clause-closed : goal.returns-clause-closed
returns-clause-closed g c = let s = c.join_all-seat.ensures in
    closes c.args.self.rule.table.shared.key.ways.list c.args.self.rule.table.shared.key.plan c.args.self.rule.plan c.join_all-seat.result.id c.join_all-seat.result.me.0 (slots_items c.close_with-table.result.words) (slots_items c.close_with-table.result.slots)
    c.args.self.rule.planned c.close_with-table.ensures.values.2 (s.share ∙ c.requires.all) s.seat.done
    c.args.seats.items c.read_places.new.places.items c.read_vrefs.new.vrefs.items c.take_outs.new.outs.items s.seat.rest s.marks s.finds s.histories s.drops s.stores s.lists s.found c.read_vrefs.ensures.words c.read_places.ensures.words c.take_outs.ensures.outs c.read_vrefs.ensures.sized c.read_places.ensures.sized c.take_outs.ensures.count

pub returns-clause-ways : goal.returns-clause-ways
returns-clause-ways g c = let s = c.join_all-seat.ensures in let keyed = c.args.self.rule.keyed in
    ways_back c.args.self.rule.table.shared.key.ways.list c.args.self.rule.table.shared.key.plan c.args.self.rule.plan c.join_all-seat.result.id c.join_all-seat.result.me.0 (slots_items c.close_with-table.result.words) (slots_items c.close_with-table.result.slots)
    c.args.self.rule.planned c.close_with-table.ensures.values.2 (s.share ∙ c.requires.all) s.seat.done c.take_outs.new.outs.items c.take_outs.ensures.outs c.take_outs.ensures.count (ap length keyed ∙ c.args.self.rule.each_way) ∙ keyed
