use Rattle.std.proofs.Common.{◌∙◌}
use Rattle.exec_queue.proofs.SeatsOfNewQueue.{all_done, all_share, nothing_took}
use Rattle.exec_queue.proofs.making.give_back.Goals as goal

pub close_in-outs-requires-clause-seats : goal.close_in-outs-requires-clause-seats
close_in-outs-requires-clause-seats g c = all_done c.args.table.rule.table.shared.table_id c.args.table.rule.plan c.args.seats.items c.requires.seats

pub close_in-outs-requires-clause-all : goal.close_in-outs-requires-clause-all
close_in-outs-requires-clause-all g c = all_share c.args.table.rule.table.shared.table_id c.args.table.rule.plan c.args.seats.items c.requires.seats ∙ c.requires.count

pub returns : goal.returns
returns g c = nothing_took c.args.table.rule.table.shared.table_id c.args.table.rule.plan c.args.seats.items _ _ _ c.close_in-outs.ensures.closed c.out_back.result c.requires.seats c.requires.link c.out_back.ensures
