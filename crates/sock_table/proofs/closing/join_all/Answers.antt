use Rattle.sock_table.proofs.JoiningSocketSeats.{first, next, last_ok}
use Rattle.sock_table.proofs.closing.join_all.Goals as goal

pub loop-earlier-init : goal.loop-earlier-init
loop-earlier-init g c = first c.args.rule.now.table.shared.table_id c.args.rule.now.plan c.args.seats.items c.pop.new.self.items c.in-Some.seat c.in-Some.ensures.items c.requires.seats

pub take_in-requires-clause-seat : goal.take_in-requires-clause-seat
take_in-requires-clause-seat g c = (last_ok c.args.rule.now.table.shared.table_id c.args.rule.now.plan c.args.seats.items c.loop-earlier.seats.items c.pop-in-loop-earlier.new.self.items c.loop-earlier.seat c.in-Some-pop.earlier c.loop-earlier.invariant c.in-Some-pop.ensures.items).seat

pub take_in-requires-clause-from : goal.take_in-requires-clause-from
take_in-requires-clause-from g c = (c.loop-earlier.invariant.seat_ok.seat.0, c.loop-earlier.invariant.seat_ok.slots)

pub take_in-requires-clause-done : goal.take_in-requires-clause-done
take_in-requires-clause-done g c = c.loop-earlier.invariant.seat_ok.done

pub loop-earlier-preserved : goal.loop-earlier-preserved
loop-earlier-preserved g c = next c.args.rule.now.table.shared.table_id c.args.rule.now.plan c.args.seats.items c.loop-earlier.seats.items c.pop-in-loop-earlier.new.self.items c.loop-earlier.seat c.in-Some-pop.earlier c.take_in.new.seat c.loop-earlier.invariant c.in-Some-pop.ensures.items c.take_in.ensures.seat c.take_in.ensures.view

pub returns-clause-seat : goal.returns-clause-seat
returns-clause-seat g c = c.loop-earlier.invariant.seat_ok
