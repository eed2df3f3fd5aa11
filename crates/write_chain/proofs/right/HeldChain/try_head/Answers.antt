use Rattle.write_chain.proofs.NotingWhileWriting.{wrote_rights}
use Rattle.write_chain.proofs.right.HeldChain.try_head.Goals as goal

pub returns-in-Done-clause-went : goal.returns-in-Done-clause-went
returns-in-Done-clause-went g c = c.in-Done.ensures.once

pub returns-in-Keep-clause-went : goal.returns-in-Keep-clause-went
returns-in-Keep-clause-went g c = (c.in-Keep.ensures.once.0, c.in-Keep.ensures.once.1)

pub returns-in-Done-clause-others : goal.returns-in-Done-clause-others
returns-in-Done-clause-others g c = c.leave.ensures.others

pub returns-in-Keep-clause-others : goal.returns-in-Keep-clause-others
returns-in-Keep-clause-others g c = c.leave.ensures.others

pub returns-in-Done-clause-wrote : goal.returns-in-Done-clause-wrote
returns-in-Done-clause-wrote g c = wrote_rights c.args.seat.now.me.0 c.leave.new.seat.me.0 c.leave.ensures.others

pub returns-in-Keep-clause-wrote : goal.returns-in-Keep-clause-wrote
returns-in-Keep-clause-wrote g c = wrote_rights c.args.seat.now.me.0 c.leave.new.seat.me.0 c.leave.ensures.others
