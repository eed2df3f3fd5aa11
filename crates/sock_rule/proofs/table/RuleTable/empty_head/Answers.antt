use Rattle.std.proofs.Common.{arith, refl}
use Rattle.sock_rule.specs.OnKey.{shows_by}
use Rattle.sock_rule.specs.Shows.{rose}
use Rattle.sock_rule.proofs.LinkOwnerSteps.{empties_on, emptied_seat}
use Rattle.sock_rule.proofs.table.RuleTable.empty_head.Goals as goal

pub compare_exchange-found-requires : goal.compare_exchange-found-requires
compare_exchange-found-requires g c = let a = c.requires.seat in (a.0, omega (arith, c.head_index-index.ensures, c.args.self.now.sized, c.requires.may.holds.inside), rw c.head_index-index.ensures (empties_on (shows_by c.args.self.now.table.shared.key) rose c.args.self.now.table.shared.key.plan c.args.self.now.plan _ _ _ a.1 a.2 c.args.self.now.planned c.args.at c.args.last.0 _ c.args.last.0 _ refl refl (omega arith) c.requires.may))

pub returns-clause-view : goal.returns-clause-view
returns-clause-view g c = λ r one. rw c.empty_head.ensures.found (c.compare_exchange-found.ensures.2 r one)

pub returns-clause-seat : goal.returns-clause-seat
returns-clause-seat g c = emptied_seat _ _ c.args.seat.now c.compare_exchange-found.new.seat c.requires.may.right c.args.last.0 c.compare_exchange-found.result c.requires.seat c.compare_exchange-found.ensures.0 (c.compare_exchange-found.ensures.2 c.requires.may.right c.requires.may.one)
