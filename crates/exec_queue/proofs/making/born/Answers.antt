use Rattle.exec_queue.proofs.SeatsOfNewQueue.{new_idle, begun, one_pass}
use Rattle.exec_queue.proofs.making.born.Goals as goal

pub returns-in_err-pass-clause-idle : goal.returns-in_err-pass-clause-idle
returns-in_err-pass-clause-idle g c = new_idle c.args.table.now.rule.table.shared.table_id c.args.table.now.rule.plan c.args.seat.now c.requires.seat

pub returns-clause-born : goal.returns-clause-born
returns-clause-born g c = let z = c.args.table.now.rule.table.shared.table_id in let p = c.args.table.now.rule.plan in let m = c.create.ensures in let k = c.in-Ok.ensures in
    begun z p c.in-Ok.id.0 c.in_ok-pass.pass.link _ _ c.args.seat.now c.create.new.seat c.publish.new.seat c.requires.seat m.seat m.slots m.between m.same record { inside = k.made.0; known = k.made.1 } k.created
    (one_pass z p c.pop.new.self.items c.args.passes.items c.in_ok-pass.pass c.in_ok-pass.ensures.items c.requires.passes c.requires.few)
    c.publish.ensures.seat c.publish.ensures.published c.publish.ensures.between c.publish.ensures.same
