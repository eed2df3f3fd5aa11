use Rattle.std.proofs.Common.{refl, sym, subst}
use Rattle.write_chain.specs.declared.keep.Went.TheVariants as went
use Rattle.sock_model.specs.declared.chain.Stage.TheVariants.{Reversing}
use Rattle.write_chain.specs.WritingRightInHand.{GoesBy, HasMore}
use Rattle.write_chain.specs.KeepingOnWriting.{WentBy}
use Rattle.write_chain.proofs.NotingWhileWriting.{wrote_rights}
use Rattle.write_chain.proofs.Dropping.{dropped_leaves}
use Rattle.write_chain.proofs.right.HeldChain.go_on.Goals as goal

pub unreachable-requires : goal.unreachable-requires
unreachable-requires g c = (subst (λ d. GoesBy c.args.self.table.now.rule.plan c.args.self.table.now.rule.ways.list c.args.self.sock.id.0 c.args.self.last.0 d c.args.seat.now.me) c.in-First.is c.requires.may)

pub put_or_drop-requires-clause-may : goal.put_or_drop-requires-clause-may
put_or_drop-requires-clause-may g c = (subst (λ d. GoesBy c.args.self.table.now.rule.plan c.args.self.table.now.rule.ways.list c.args.self.sock.id.0 c.args.self.last.0 d c.args.seat.now.me) c.in-Puts.is c.requires.may)

pub ask-doing-requires-clause-may : goal.ask-doing-requires-clause-may
ask-doing-requires-clause-may g c = (subst (λ d. GoesBy c.args.self.table.now.rule.plan c.args.self.table.now.rule.ways.list c.args.self.sock.id.0 c.args.self.last.0 d c.args.seat.now.me) c.in-Waits.is c.requires.may)

pub returns-in-Waits-clause-went : goal.returns-in-Waits-clause-went
returns-in-Waits-clause-went g c = subst (λ r. WentBy c.args.self.table.now.rule.plan c.args.self.table.now.rule.ways.list c.args.self.sock (went.Further r) c.args.seat.now.me.0 c.ask-doing.new.seat.me) (sym c.with.ensures) (refl, c.ask-doing.ensures.goes)

pub take_next-hand-requires-clause-may : goal.take_next-hand-requires-clause-may
take_next-hand-requires-clause-may g c = (subst (λ d. GoesBy c.args.self.table.now.rule.plan c.args.self.table.now.rule.ways.list c.args.self.sock.id.0 c.args.self.last.0 d c.args.seat.now.me) c.in-Next.is c.requires.may)

pub returns-in-Next-clause-went : goal.returns-in-Next-clause-went
returns-in-Next-clause-went g c = subst (λ r. WentBy c.args.self.table.now.rule.plan c.args.self.table.now.rule.ways.list c.args.self.sock (went.Further r) c.args.seat.now.me.0 c.take_next-hand.new.seat.me) (sym c.with-in-Next.ensures) (refl, c.take_next-hand.ensures.hand)

pub returns-in-Next-clause-wrote : goal.returns-in-Next-clause-wrote
returns-in-Next-clause-wrote g c = wrote_rights c.args.seat.now.me.0 c.take_next-hand.new.seat.me.0 c.take_next-hand.ensures.others

pub try_head-requires-clause-may : goal.try_head-requires-clause-may
try_head-requires-clause-may g c = (subst (λ d. GoesBy c.args.self.table.now.rule.plan c.args.self.table.now.rule.ways.list c.args.self.sock.id.0 c.args.self.last.0 d c.args.seat.now.me) c.in-Last.is c.requires.may)

pub fetch_link-link-requires-clause-may : goal.fetch_link-link-requires-clause-may
fetch_link-link-requires-clause-may g c = (c.args.self.last.0, Reversing c.in-Reversing.top.0 c.in-Reversing.top.0 0, (subst (λ d. GoesBy c.args.self.table.now.rule.plan c.args.self.table.now.rule.ways.list c.args.self.sock.id.0 c.args.self.last.0 d c.args.seat.now.me) c.in-Reversing.is c.requires.may).0)

pub returns-in-Reversing-clause-went : goal.returns-in-Reversing-clause-went
returns-in-Reversing-clause-went g c = let w = (subst (λ d. GoesBy c.args.self.table.now.rule.plan c.args.self.table.now.rule.ways.list c.args.self.sock.id.0 c.args.self.last.0 d c.args.seat.now.me) c.in-Reversing.is c.requires.may) in subst (λ r. WentBy c.args.self.table.now.rule.plan c.args.self.table.now.rule.ways.list c.args.self.sock (went.Further r) c.args.seat.now.me.0 c.fetch_link-link.new.seat.me) (sym c.with-in-Reversing.ensures) (refl, (c.fetch_link-link.ensures.has c.args.self.last.0 (Reversing c.in-Reversing.top.0 c.in-Reversing.top.0 0) w.0, w.1, w.1))

pub returns-in-Reversing-clause-wrote : goal.returns-in-Reversing-clause-wrote
returns-in-Reversing-clause-wrote g c = c.fetch_link-link.ensures.wrote

pub walk_back-requires-clause-may : goal.walk_back-requires-clause-may
walk_back-requires-clause-may g c = (subst (λ d. GoesBy c.args.self.table.now.rule.plan c.args.self.table.now.rule.ways.list c.args.self.sock.id.0 c.args.self.last.0 d c.args.seat.now.me) c.in-Back.is c.requires.may)

pub returns-in-Back-clause-went : goal.returns-in-Back-clause-went
returns-in-Back-clause-went g c = c.walk_back.ensures.goes

pub returns-in-Back-clause-wrote : goal.returns-in-Back-clause-wrote
returns-in-Back-clause-wrote g c = wrote_rights c.args.seat.now.me.0 c.walk_back.new.seat.me.0 c.walk_back.ensures.others

pub returns-in-Puts-clause-stays : goal.returns-in-Puts-clause-stays
returns-in-Puts-clause-stays g c = λ d m. dropped_leaves c.put_or_drop.result (c.put_or_drop.ensures.stays d)

pub returns-in-Waits-clause-stays : goal.returns-in-Waits-clause-stays
returns-in-Waits-clause-stays g c = λ d m. subst (λ r. HasMore r.doing) (sym c.with.ensures) c.ask-doing.ensures.more

pub returns-in-Next-clause-stays : goal.returns-in-Next-clause-stays
returns-in-Next-clause-stays g c = λ d m. subst (λ r. HasMore r.doing) (sym c.with-in-Next.ensures) tt

pub returns-in-Last-clause-stays : goal.returns-in-Last-clause-stays
returns-in-Last-clause-stays g c = λ d m. absurd (subst (λ x. HasMore x) c.in-Last.is m)

pub returns-in-Reversing-clause-stays : goal.returns-in-Reversing-clause-stays
returns-in-Reversing-clause-stays g c = λ d m. subst (λ r. HasMore r.doing) (sym c.with-in-Reversing.ensures) tt

pub returns-in-Back-clause-stays : goal.returns-in-Back-clause-stays
returns-in-Back-clause-stays g c = λ d m. c.walk_back.ensures.more
