use Rattle.std.proofs.Common.{arith, refl}
use Rattle.sock_rule.specs.OnKey.{shows_by}
use Rattle.sock_rule.specs.Shows.{rose}
use Rattle.sock_rule.proofs.SeatStaysInTable.{still_seat}
use Rattle.sock_rule.proofs.LinkOwnerSteps.{places_on}
use Rattle.sock_rule.proofs.table.RuleTable.store_place.Goals as goal

pub place_index-index-requires : goal.place_index-index-requires
place_index-index-requires g c = record { place = c.requires.may.2.placing.place_in }

pub store-requires : goal.store-requires
store-requires g c = let a = c.requires.seat in let m = c.requires.may in (a.0, omega (arith, c.args.self.now.sized, m.2.placing.place_in, c.place_index-index.ensures), places_on (shows_by c.args.self.now.table.shared.key) rose c.args.self.now.table.shared.key.plan c.args.self.now.plan _ _ _ a.1 a.2 c.args.self.now.planned c.args.at m.0 m.1 _ c.args.value.0 c.place_index-index.ensures m.3 m.2)

pub returns-clause-seat : goal.returns-clause-seat
returns-clause-seat g c = let m = c.requires.may.2.placing in still_seat _ _ c.args.seat.now c.store.new.seat _ c.requires.seat c.store.ensures.0 (c.store.ensures.2 m.right m.now m.one m.stage) refl refl
