use Rattle.std.proofs.Common.{arith, refl}
use Rattle.sock_rule.specs.OnKey.{shows_by}
use Rattle.sock_rule.specs.Shows.{rose}
use Rattle.sock_rule.proofs.LinkOwnerSteps.{looks_on, looked_seat}
use Rattle.sock_rule.proofs.table.RuleTable.look_to_write.Goals as goal

pub load-found-requires : goal.load-found-requires
load-found-requires g c = let a = c.requires.seat in (a.0, omega (arith, c.ref_index-index.ensures, c.args.self.now.sized, c.requires.may.holds.inside), rw c.ref_index-index.ensures (looks_on (shows_by c.args.self.now.table.shared.key) rose c.args.self.now.table.shared.key.plan c.args.self.now.plan _ _ _ a.1 a.2 c.args.self.now.planned c.args.at _ refl c.requires.may))

pub returns-clause-view : goal.returns-clause-view
returns-clause-view g c = λ r one. rw c.look_word.ensures.step.0 (c.load-found.ensures.2 r c.args.at one c.ref_index-index.ensures)

pub returns-clause-seat : goal.returns-clause-seat
returns-clause-seat g c = looked_seat _ _ c.args.seat.now c.load-found.new.seat c.requires.may.right c.args.at c.load-found.result c.requires.seat c.load-found.ensures.0 (c.load-found.ensures.2 c.requires.may.right c.args.at c.requires.may.one c.ref_index-index.ensures)
