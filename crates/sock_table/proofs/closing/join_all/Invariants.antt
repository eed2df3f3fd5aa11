use Rattle.sock_table.proofs.JoiningSocketSeats.{Joined}
use Rattle.sock_table.proofs.closing.join_all.Given as goal

abbrev pub invariant-loop-earlier : goal.invariant-loop-earlier
invariant-loop-earlier g l = Joined l.rule.table.shared.table_id l.rule.plan l.fn.seats.items l.seats.items l.seat

abbrev pub decreases-loop-earlier : goal.decreases-loop-earlier
decreases-loop-earlier g l = goal.left-loop-earlier g l
