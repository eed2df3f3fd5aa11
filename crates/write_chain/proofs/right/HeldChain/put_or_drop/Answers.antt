use Rattle.std.proofs.Common.{refl, sym, subst}
use Rattle.write_chain.specs.declared.keep.Went.TheVariants as went
use Rattle.write_chain.specs.KeepingOnWriting.{WentBy}
use Rattle.write_chain.proofs.NotingWhileWriting.{wrote_then, wrote_rights, drop_then}
use Rattle.write_chain.proofs.Dropping.{code_before}
use Rattle.write_chain.proofs.right.HeldChain.put_or_drop.Goals as goal

pub drop_one-doing-requires-clause-may : goal.drop_one-doing-requires-clause-may
drop_one-doing-requires-clause-may g c = c.in-Dead.ensures.tried

pub returns-in-Dead-clause-went : goal.returns-in-Dead-clause-went
returns-in-Dead-clause-went g c = subst (λ r. WentBy c.args.self.table.now.rule.plan c.args.self.table.now.rule.ways.list c.args.self.sock (went.Dropped r c.drop_one-doing.result.1 c.drop_one-doing.result.2) c.args.seat.now.me.0 c.drop_one-doing.new.seat.me) (sym c.with.ensures)
    (refl, c.drop_one-doing.ensures.goes, c.drop_one-doing.ensures.dead, code_before c.drop_one-doing.result.2 c.args.self.sock.id.0 c.args.seat.now.me.0 c.try_put.new.seat.me.0 c.drop_one-doing.new.seat.me.0 c.try_put.ensures.wrote c.drop_one-doing.ensures.code)

pub returns-in-Dead-clause-wrote : goal.returns-in-Dead-clause-wrote
returns-in-Dead-clause-wrote g c = drop_then c.args.self.table.now.rule.plan c.drop_one-doing.result.1 c.args.seat.now.me.0 c.try_put.new.seat.me.0 c.drop_one-doing.new.seat.me.0 c.try_put.ensures.wrote c.drop_one-doing.ensures.wrote

pub place-doing-requires-clause-may : goal.place-doing-requires-clause-may
place-doing-requires-clause-may g c = c.in-Whole.ensures.tried.0

pub returns-in-Whole-clause-went : goal.returns-in-Whole-clause-went
returns-in-Whole-clause-went g c = subst (λ r. WentBy c.args.self.table.now.rule.plan c.args.self.table.now.rule.ways.list c.args.self.sock (went.Further r) c.args.seat.now.me.0 c.place-doing.new.seat.me) (sym c.with-in-Whole.ensures) (refl, c.place-doing.ensures.goes)

pub returns-in-Whole-clause-wrote : goal.returns-in-Whole-clause-wrote
returns-in-Whole-clause-wrote g c = wrote_then c.args.seat.now.me.0 c.try_put.new.seat.me.0 c.place-doing.new.seat.me.0 c.try_put.ensures.wrote (wrote_rights c.try_put.new.seat.me.0 c.place-doing.new.seat.me.0 c.place-doing.ensures.others)

pub returns-in-Goes-clause-went : goal.returns-in-Goes-clause-went
returns-in-Goes-clause-went g c = subst (λ r. WentBy c.args.self.table.now.rule.plan c.args.self.table.now.rule.ways.list c.args.self.sock (went.Further r) c.args.seat.now.me.0 c.try_put.new.seat.me) (sym c.with-in-Goes.ensures) (refl, c.in-Goes.ensures.tried.0)

pub returns-in-Goes-clause-wrote : goal.returns-in-Goes-clause-wrote
returns-in-Goes-clause-wrote g c = c.try_put.ensures.wrote

pub returns-in-Dead-clause-stays : goal.returns-in-Dead-clause-stays
returns-in-Dead-clause-stays g c = λ d. tt

pub returns-in-Whole-clause-stays : goal.returns-in-Whole-clause-stays
returns-in-Whole-clause-stays g c = λ d. absurd (c.in-Whole.ensures.stays d)

pub returns-in-Goes-clause-stays : goal.returns-in-Goes-clause-stays
returns-in-Goes-clause-stays g c = λ d. absurd (c.in-Goes.ensures.stays d)
