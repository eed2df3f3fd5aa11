use Rattle.std.proofs.Common.{arith}
use Rattle.sock_rule.specs.OnKey.{shows_by}
use Rattle.sock_rule.specs.Shows.{rose}
use Rattle.sock_rule.proofs.LinkOwnerSteps.{reads_back_on, read_back_seat}
use Rattle.sock_rule.proofs.table.RuleTable.read_back.Goals as goal

pub next_index-index-requires : goal.next_index-index-requires
next_index-index-requires g c = omega (arith, c.requires.ticket.1, c.request.ensures)

pub load-requires : goal.load-requires
load-requires g c = let a = c.requires.seat in (a.0, omega (arith, c.args.self.now.sized, c.requires.ticket.1, c.request.ensures, c.next_index-index.ensures), reads_back_on (shows_by c.args.self.now.table.shared.key) rose c.args.self.now.table.shared.key.plan c.args.self.now.plan _ _ _ a.1 a.2 c.args.self.now.planned c.args.at.0 _ (omega (arith, c.request.ensures, c.next_index-index.ensures)) c.requires.may)

pub returns-clause-view : goal.returns-clause-view
returns-clause-view g c = λ r top after one stage. (c.load.ensures.2 r one).1 top c.args.at.0 after stage

pub returns-clause-seat : goal.returns-clause-seat
returns-clause-seat g c = let m = c.requires.may in read_back_seat _ _ c.args.seat.now c.load.new.seat m.right m.top c.args.at.0 m.after c.load.result c.requires.seat c.load.ensures.0 ((c.load.ensures.2 m.right m.one).1 m.top c.args.at.0 m.after m.stage)
