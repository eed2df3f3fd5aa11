use Rattle.std.proofs.Common.{◌∙◌, rules}
use Rattle.script_parts.proofs.RestingIdSeats.{rested_left, rested_all}
use Rattle.script_threads.proofs.ending.end_calls.Goals as goal

pub close-requires-clause-seats : goal.close-requires-clause-seats
close-requires-clause-seats g c =
    rested_left c.args.ids.table.shared.table_id c.join_all.result c.end_rest.new.calls.seat c.end_rest.ensures.ids c.in_ok-done.done.items c.push_reserved.new.self.items (search rules) c.push_reserved.ensures.items
    c.join_all.ensures.seat c.join_all.ensures.slots

pub close-requires-clause-all : goal.close-requires-clause-all
close-requires-clause-all g c =
    rested_all c.args.ids.table.shared.table_id c.join_all.result c.end_rest.new.calls.seat c.end_rest.ensures.ids c.in_ok-done.done.items c.push_reserved.new.self.items (search rules) c.push_reserved.ensures.items
    ∙ (c.join_all.ensures.share ∙ c.requires.all)
