use Rattle.corr_id.proofs.JoiningIdSeats.{first, next, last_ok}
use Rattle.corr_id.proofs.closing.join_all.Goals as goal

pub loop-earlier-init : goal.loop-earlier-init
loop-earlier-init g c = first c.args.table.now.table.shared.table_id c.args.seats.items c.pop.new.self.items c.in-Some.seat c.in-Some.ensures.items c.requires.seats

pub take_in-requires-clause-seat : goal.take_in-requires-clause-seat
take_in-requires-clause-seat g c = last_ok c.args.table.now.table.shared.table_id c.args.seats.items c.loop-earlier.seats.items c.pop-in-loop-earlier.new.self.items c.loop-earlier.seat c.in-Some-pop.earlier c.loop-earlier.invariant c.in-Some-pop.ensures.items

pub loop-earlier-preserved : goal.loop-earlier-preserved
loop-earlier-preserved g c = next c.args.table.now.table.shared.table_id c.args.seats.items c.loop-earlier.seats.items c.pop-in-loop-earlier.new.self.items c.loop-earlier.seat c.in-Some-pop.earlier c.take_in.new.seat c.loop-earlier.invariant c.in-Some-pop.ensures.items c.take_in.ensures.seat.0 c.take_in.ensures.view
