use Rattle.std.proofs.Common.{subst}
use Rattle.write_chain.specs.WritingRightInHand.{GoesBy}
use Rattle.write_chain.proofs.WriterThroughSteps.{must_last}
use Rattle.write_chain.proofs.right.HeldChain.leave_last.Goals as goal

pub unreachable-requires : goal.unreachable-requires
unreachable-requires g c = must_last c.args.doing c.requires.last c.in_default.not-Last

pub leave-requires-clause-may : goal.leave-requires-clause-may
leave-requires-clause-may g c = subst (λ d. GoesBy c.args.self.table.now.rule.plan c.args.self.table.now.rule.ways.list c.args.self.sock.id.0 c.args.self.last.0 d c.args.seat.now.me) c.in-Last.is c.requires.may
