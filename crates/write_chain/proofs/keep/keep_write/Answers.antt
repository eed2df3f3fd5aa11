use Rattle.std.proofs.Common.{refl, sym, subst}
use Rattle.sock_table.specs.declared.refs.SockRef.{SockRef}
use Rattle.write_chain.specs.declared.keep.Went.TheVariants as went
use Rattle.write_chain.specs.KeepingOnWriting.{WentBy, WentWriting}
use Rattle.write_chain.specs.WritingRightInHand.{FoundDead}
use Rattle.write_chain.proofs.NotingWhileWriting.{wrote_rights, wrote_then, drop_then}
use Rattle.write_chain.proofs.Dropping.{code_before, still_dead}
use Rattle.write_chain.proofs.keep.keep_write.Goals as goal

pub goes-init : goal.goes-init
goes-init g c = record { can_go = tt; is_finite = tt; still = record { seat = c.requires.seat; same = refl; may = c.requires.may }; stays = λ d m. m; wrote = wrote_rights c.args.seat.now.me.0 c.args.seat.now.me.0 refl }

pub go_on-requires-clause-seat : goal.go_on-requires-clause-seat
go_on-requires-clause-seat g c = c.goes.invariant.still.seat

pub go_on-requires-clause-may : goal.go_on-requires-clause-may
go_on-requires-clause-may g c = c.goes.invariant.still.may

pub goes-preserved : goal.goes-preserved
goes-preserved g c = let w = (subst (λ (y : SockRef). WentBy c.args.table.now.rule.plan c.args.table.now.rule.ways.list y (went.Further c.in-Further.next) c.goes.seat.me.0 c.go_on.new.seat.me) c.goes.invariant.still.same c.in-Further.ensures.went) in record { can_go = tt; is_finite = tt; still = record { seat = c.go_on.ensures.seat; same = w.0; may = w.1 }; stays = (λ d m. c.in-Further.ensures.stays (subst (λ (y : SockRef). FoundDead y.id.0 c.goes.seat.me.0) (sym c.goes.invariant.still.same) (still_dead c.args.right.sock.id.0 c.args.seat.now.me.0 c.goes.seat.me.0 c.goes.invariant.wrote d)) (c.goes.invariant.stays d m)); wrote = (wrote_then c.args.seat.now.me.0 c.goes.seat.me.0 c.go_on.new.seat.me.0 c.goes.invariant.wrote (subst (λ (y : SockRef). WentWriting c.args.table.now.rule.plan y (went.Further c.in-Further.next) c.goes.seat.me.0 c.go_on.new.seat.me.0) c.goes.invariant.still.same c.in-Further.ensures.wrote)) }

pub returns-in-Done-clause-kept : goal.returns-in-Done-clause-kept
returns-in-Done-clause-kept g c = (subst (λ (y : SockRef). WentBy c.args.table.now.rule.plan c.args.table.now.rule.ways.list y (went.Done c.in-Done.sock) c.goes.seat.me.0 c.go_on.new.seat.me) c.goes.invariant.still.same c.in-Done.ensures.went)

pub returns-in-Done-clause-wrote : goal.returns-in-Done-clause-wrote
returns-in-Done-clause-wrote g c = (wrote_then c.args.seat.now.me.0 c.goes.seat.me.0 c.go_on.new.seat.me.0 c.goes.invariant.wrote (subst (λ (y : SockRef). WentWriting c.args.table.now.rule.plan y (went.Done c.in-Done.sock) c.goes.seat.me.0 c.go_on.new.seat.me.0) c.goes.invariant.still.same c.in-Done.ensures.wrote))

pub returns-in-Dropped-clause-kept : goal.returns-in-Dropped-clause-kept
returns-in-Dropped-clause-kept g c = let w = (subst (λ (y : SockRef). WentBy c.args.table.now.rule.plan c.args.table.now.rule.ways.list y (went.Dropped c.in-Dropped.right c.in-Dropped.msg c.in-Dropped.code) c.goes.seat.me.0 c.go_on.new.seat.me) c.goes.invariant.still.same c.in-Dropped.ensures.went) in
    (w.0, w.1, w.2, code_before c.in-Dropped.code c.args.right.sock.id.0 c.args.seat.now.me.0 c.goes.seat.me.0 c.go_on.new.seat.me.0 c.goes.invariant.wrote w.3)

pub returns-in-Dropped-clause-wrote : goal.returns-in-Dropped-clause-wrote
returns-in-Dropped-clause-wrote g c = (drop_then c.args.table.now.rule.plan c.in-Dropped.msg c.args.seat.now.me.0 c.goes.seat.me.0 c.go_on.new.seat.me.0 c.goes.invariant.wrote (subst (λ (y : SockRef). WentWriting c.args.table.now.rule.plan y (went.Dropped c.in-Dropped.right c.in-Dropped.msg c.in-Dropped.code) c.goes.seat.me.0 c.go_on.new.seat.me.0) c.goes.invariant.still.same c.in-Dropped.ensures.wrote))

pub returns-in-Done-clause-stays : goal.returns-in-Done-clause-stays
returns-in-Done-clause-stays g c = λ d m. absurd (c.in-Done.ensures.stays (subst (λ (y : SockRef). FoundDead y.id.0 c.goes.seat.me.0) (sym c.goes.invariant.still.same) (still_dead c.args.right.sock.id.0 c.args.seat.now.me.0 c.goes.seat.me.0 c.goes.invariant.wrote d)) (c.goes.invariant.stays d m))

pub returns-in-Dropped-clause-stays : goal.returns-in-Dropped-clause-stays
returns-in-Dropped-clause-stays g c = λ d m. tt
